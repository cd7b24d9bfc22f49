use Rattle.config_text.proofs.Cuts.{cut_found, cut_none}
use Rattle.config_text.proofs.lines.cut_at.Goals as goal

pub returns-in_default : goal.returns-in_default
returns-in_default c = cut_none c.args.byte c.args.text.now c.in_default.ensures

pub returns : goal.returns
returns c = cut_found c.args.byte c.args.text.now c.in-Some.place c.in-Some.ensures
