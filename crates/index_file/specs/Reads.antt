-- How reading is refused.
use Rattle.std.specs.Prelude.{ℕ, List}
use Rattle.index_file.specs.declared.errors.IndexErr.{IndexErr}
use Rattle.index_file.specs.declared.errors.IndexErr.TheVariants.{BadIndex, NoMemory}
use Rattle.index_file.specs.Stops.{StopsAt}

-- The bytes are no index, and stop being one at this byte; or memory is wanting.
abbrev pub RefusesIndex : List ℕ → IndexErr → Type 0
RefusesIndex bytes (BadIndex at) = StopsAt bytes at
RefusesIndex bytes NoMemory = Unit {0}
