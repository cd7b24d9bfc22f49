use Rattle.std.proofs.Common.{sym}
use Rattle.git_objects.proofs.Cutting.{cut_none, cut_some}
use Rattle.git_objects.proofs.cuts.cut_at.Goals as goal

pub returns-in_default : goal.returns-in_default
returns-in_default c = cut_none c.args.byte c.args.text.now (sym c.in_default.ensures)

pub returns : goal.returns
returns c =
    cut_some c.args.byte c.args.text.now c.split_at.result.0.now c.split_at.result.1.now c.split_at-2.result.1.now c.in-Some.at (sym c.in-Some.ensures) c.split_at.ensures.front c.split_at.ensures.back
    c.split_at-2.ensures.back
