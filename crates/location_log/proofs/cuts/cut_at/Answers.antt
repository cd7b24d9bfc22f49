use Rattle.location_log.proofs.CutTexts.{cut_here, none_lacks}
use Rattle.location_log.proofs.cuts.cut_at.Goals as goal

pub returns-in_default : goal.returns-in_default
returns-in_default c = none_lacks c.args.byte c.args.text.now c.in_default.ensures

pub returns : goal.returns
returns c = cut_here c.args.byte c.args.text.now c.in-Some.place c.in-Some.ensures
