-- A claim that is noted in a log.
use Rattle.std.specs.Prelude.{◌≡◌, ℕ, ◌+◌, ◌-◌, ◌^◌, Bool, true, false, ◌⊎◌, List, ◌∷◌, max}
use Rattle.location_log.specs.declared.errors.LogErr.{LogErr}
use Rattle.location_log.specs.declared.errors.LogErr.TheVariants.{BadLog, NoMemory, TimeFull}
use Rattle.location_log.specs.declared.lines.Claim.{Claim}
use Rattle.location_log.specs.declared.lines.Claim.TheVariants.{Absent, Present}
use Rattle.location_log.specs.Counting.{Counts, HasNone}
use Rattle.location_log.specs.Newest.{AreNewest}
use Rattle.location_log.specs.Plain.{IsLogLine, PlainLine}

-- What is claimed where the content is present, and where not.
abbrev pub claimed : Bool → Claim
claimed true = Present
claimed false = Absent

-- The seconds of a note: the moment, but later than the line that counts for the repository.
abbrev pub IsNotedTime : List PlainLine → List ℕ → ℕ → ℕ → Type 0
IsNotedTime lines uuid moment secs =
    ((old : PlainLine) × Counts lines uuid old × (secs ≡ max moment (old.secs + 1)))
    ⊎ (HasNone lines uuid × (secs ≡ moment))

-- The line that is noted of a repository, at whole seconds.
pub record IsNoted (lines : List PlainLine) (uuid : List ℕ) (here : Bool) (moment : ℕ)
    (noted : PlainLine) : Type 0 where
  pub stored : IsLogLine noted
  pub time : IsNotedTime lines uuid moment noted.secs
  pub whole : noted.nanos ≡ 0
  pub claim : noted.claim ≡ claimed here
  pub own : noted.uuid ≡ uuid

-- The line that counts for the repository has the last second that there is.
pub record IsTimeFull (lines : List PlainLine) (uuid : List ℕ) : Type 0 where
  pub old : PlainLine
  pub counts : Counts lines uuid old
  pub last : old.secs ≡ 2 ^ 64 - 1

-- After a note: the lines that count with the new one.
abbrev pub IsNote : List PlainLine → List ℕ → Bool → ℕ → List PlainLine → Type 0
IsNote lines uuid here moment out =
    (noted : PlainLine) × IsNoted lines uuid here moment noted × AreNewest (noted ∷ lines) out

-- No second is later than that of the line that counts, or memory is wanting.
abbrev pub RefusesNote : List PlainLine → List ℕ → LogErr → Type 0
RefusesNote lines uuid (BadLog line) = ⊥
RefusesNote lines uuid TimeFull = IsTimeFull lines uuid
RefusesNote lines uuid NoMemory = Unit {0}
