-- The counting lines of a log, one for each repository.
use Rattle.std.specs.Prelude.{◌≡◌, ◌↔◌, List, [], ◌∷◌}
use Rattle.std.specs.declared.cmp.Ordering.TheVariants.{Less}
use Rattle.std.specs.Cmp.Lexicographic.{slice_cmp}
use Rattle.std.specs.List.{AllByRecursion, Contains}
use Rattle.std.specs.Ordering.{nat_cmp}
use Rattle.location_log.specs.Counting.{Counts}
use Rattle.location_log.specs.Plain.{PlainLine}

-- The UUID of one line is before that of another, in byte order.
abbrev pub IsBefore : PlainLine → PlainLine → Type 0
IsBefore line other = slice_cmp nat_cmp line.uuid other.uuid ≡ Less

-- The UUIDs ascend.
abbrev pub Ascend : List PlainLine → Type 0
Ascend [] = Unit {0}
Ascend (line ∷ lines) = AllByRecursion (IsBefore line) lines × Ascend lines

-- The UUIDs ascend, and the lines are those that count.
pub record AreNewest (lines out : List PlainLine) : Type 0 where
  pub ascend : Ascend out
  pub each : (line : PlainLine) → Contains out line ↔ Counts lines line.uuid line
