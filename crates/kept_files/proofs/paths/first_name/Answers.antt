use Rattle.kept_files.proofs.Cutting.{first_alone, first_cut}
use Rattle.kept_files.proofs.paths.first_name.Goals as goal

pub returns-in-Some : goal.returns-in-Some
returns-in-Some c = first_cut c.args.path.now c.in-Some.name.now c.in-Some.field-0-1.now c.in-Some.ensures.cases

pub returns-in-None : goal.returns-in-None
returns-in-None c = first_alone c.args.path.now c.in-None.ensures.cases
