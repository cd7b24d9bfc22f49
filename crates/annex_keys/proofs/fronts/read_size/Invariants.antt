use Rattle.std.proofs.Common.{◌-◌, length}
use Rattle.annex_keys.proofs.Sizes.{SizeSoFar}
use Rattle.annex_keys.proofs.fronts.read_size.Given as goal

-- the digits so far are those of the size so far
abbrev pub invariant-loop-at : goal.invariant-loop-at
invariant-loop-at l = SizeSoFar l.text l.at l.size

abbrev pub decreases-loop-at : goal.decreases-loop-at
decreases-loop-at l = length l.text - l.at
