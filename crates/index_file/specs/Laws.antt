-- What holds of all bytes.
use Rattle.std.specs.Prelude.{◌≡◌, ℕ, List}
use Rattle.index_file.specs.declared.entries.IndexEntry.{IndexEntry}
use Rattle.index_file.specs.Index.{IsIndexText}
use Rattle.index_file.specs.Stops.{StopsAt}

-- Bytes are the index of one list at most. Those that stop being one are of none, and stop at one
-- place.
pub record HaveOneReading : Type 0 where
  pub list : (bytes : List ℕ) (one two : List IndexEntry) → IsIndexText bytes one
      → IsIndexText bytes two → one ≡ two
  pub none : (bytes : List ℕ) (at : ℕ) (list : List IndexEntry) → StopsAt bytes at
      → IsIndexText bytes list → ⊥
  pub place : (bytes : List ℕ) (m n : ℕ) → StopsAt bytes m → StopsAt bytes n → m ≡ n
