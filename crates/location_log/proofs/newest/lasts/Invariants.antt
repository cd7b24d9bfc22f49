use Rattle.std.proofs.Common.{◌≡◌, ◌++◌, length}
use Rattle.location_log.specs.Steps.{lasts}
use Rattle.location_log.proofs.newest.lasts.Given as goal

-- what is kept and what is left make the whole
abbrev pub invariant-loop-line : goal.invariant-loop-line
invariant-loop-line l = l.kept.items ++ lasts l.left ≡ lasts l.lines

abbrev pub decreases-loop-line : goal.decreases-loop-line
decreases-loop-line l = length l.left
