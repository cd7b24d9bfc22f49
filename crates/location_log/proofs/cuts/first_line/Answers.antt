use Rattle.location_log.proofs.CutTexts.{line_cut, line_last}
use Rattle.location_log.proofs.cuts.first_line.Goals as goal

pub returns-in-Some : goal.returns-in-Some
returns-in-Some c = line_cut c.args.text.now c.in-Some.line.now c.in-Some.rest.now c.in-Some.ensures

pub returns-in-None : goal.returns-in-None
returns-in-None c = line_last c.args.text.now c.in-None.ensures
