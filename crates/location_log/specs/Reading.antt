-- What refuses a log.
use Rattle.std.specs.Prelude.{ℕ, List}
use Rattle.location_log.specs.declared.errors.LogErr.{LogErr}
use Rattle.location_log.specs.declared.errors.LogErr.TheVariants.{BadLog, NoMemory, TimeFull}
use Rattle.location_log.specs.Texts.{IsBadAt}

-- This line of the text is its first bad one, or memory is wanting.
abbrev pub RefusesLog : List ℕ → LogErr → Type 0
RefusesLog text (BadLog line) = IsBadAt text line
RefusesLog text TimeFull = ⊥
RefusesLog text NoMemory = Unit {0}
