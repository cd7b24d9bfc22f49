use Rattle.kept_files.proofs.Cutting.{last_alone, last_cut}
use Rattle.kept_files.proofs.paths.last_name.Goals as goal

pub returns-in-Some : goal.returns-in-Some
returns-in-Some c = last_cut c.args.path.now c.in-Some.field-0-0.now c.in-Some.name.now c.in-Some.ensures.cases

pub returns-in-None : goal.returns-in-None
returns-in-None c = last_alone c.args.path.now c.in-None.ensures.cases
