use Rattle.std.proofs.Common.{◌≡◌}
use Rattle.std.specs.Prelude.{MatchOption}
use Rattle.annex_keys.specs.GroupsAtEnd.{IsLastDotBelow, NoDotBelow}
use Rattle.annex_keys.proofs.extensions.last_dot.Given as goal

-- the last dot so far
abbrev pub invariant-loop-at : goal.invariant-loop-at
invariant-loop-at l = MatchOption l.found (NoDotBelow l.name l.at) (IsLastDotBelow l.name l.at)
