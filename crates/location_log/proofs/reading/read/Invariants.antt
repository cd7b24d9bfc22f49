use Rattle.std.proofs.Common.{length}
use Rattle.std.specs.Prelude.{option_map}
use Rattle.location_log.specs.Steps.{lines_left}
use Rattle.location_log.proofs.Logs.{SoFar}
use Rattle.location_log.proofs.reading.read.Given as goal

-- the lines so far and those that are left make the whole
abbrev pub invariant-loop-left : goal.invariant-loop-left
invariant-loop-left l = SoFar l.bytes l.count (lines_left (option_map (λ rest. rest.now) l.left)) l.lines.items

abbrev pub decreases-loop-left : goal.decreases-loop-left
decreases-loop-left l = length (lines_left (option_map (λ rest. rest.now) l.left))
