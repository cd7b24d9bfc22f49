use Rattle.std.proofs.Common.{take}
use Rattle.tree_status.proofs.PathOrder.{AreValid}
use Rattle.tree_status.proofs.viewing.are_valid.Given as goal

-- the paths so far are valid
abbrev pub invariant-loop-path : goal.invariant-loop-path
invariant-loop-path l = AreValid (take l.path-index l.paths)
