use Rattle.std.proofs.Common.{length}
use Rattle.git_objects.proofs.ExtraLines.{IsFront}
use Rattle.git_objects.proofs.commit_decoding.read_extra.Given as goal

-- further lines stand before the rest
abbrev pub invariant-loop-line : goal.invariant-loop-line
invariant-loop-line l = IsFront l.text l.rest

abbrev pub decreases-loop-line : goal.decreases-loop-line
decreases-loop-line l = length l.rest
