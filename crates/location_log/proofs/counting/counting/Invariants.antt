use Rattle.std.proofs.Common.{take}
use Rattle.std.specs.Prelude.{MatchOption}
use Rattle.location_log.specs.Counting.{Counts, HasNone}
use Rattle.location_log.proofs.counting.counting.Given as goal

-- the line that counts so far
abbrev pub invariant-loop-line : goal.invariant-loop-line
invariant-loop-line l =
    MatchOption l.found (HasNone (take l.line-index l.lines) l.uuid) (Counts (take l.line-index l.lines) l.uuid)
