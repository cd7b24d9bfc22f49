-- Which line of a repository counts.
use Rattle.std.specs.Prelude.{◌≡◌, ℕ, ◌<◌, ◌⊎◌, List}
use Rattle.std.specs.List.{Contains}
use Rattle.location_log.specs.declared.lines.Claim.{Claim}
use Rattle.location_log.specs.declared.lines.Claim.TheVariants.{Absent, Dead, Present}
use Rattle.location_log.specs.Plain.{PlainLine}

-- Of two claims of one time the heavier counts.
abbrev pub weight : Claim → ℕ
weight Present = 0
weight Absent = 1
weight Dead = 2

-- A line is later than another, or of the same time and Dead before Absent before Present.
abbrev pub Beats : PlainLine → PlainLine → Type 0
Beats line other =
    (other.secs < line.secs)
    ⊎ ((other.secs ≡ line.secs) × ((other.nanos < line.nanos)
    ⊎ ((other.nanos ≡ line.nanos) × (weight other.claim < weight line.claim))))

-- Of the lines of this repository this one counts: no other beats it.
pub record Counts (lines : List PlainLine) (uuid : List ℕ) (line : PlainLine) : Type 0 where
  pub within : Contains lines line
  pub own : line.uuid ≡ uuid
  pub best : (other : PlainLine) → Contains lines other → other.uuid ≡ uuid
      → Beats other line → ⊥

-- No line is of this repository.
abbrev pub HasNone : List PlainLine → List ℕ → Type 0
HasNone lines uuid = (line : PlainLine) → Contains lines line → line.uuid ≡ uuid → ⊥

-- The repository has the content, as its counting line says.
pub record IsPresent (lines : List PlainLine) (uuid : List ℕ) : Type 0 where
  pub line : PlainLine
  pub counts : Counts lines uuid line
  pub says : line.claim ≡ Present
