-- What holds of every text and key.
use Rattle.std.specs.Prelude.{◌≡◌, ℕ, List}
use Rattle.annex_keys.specs.Keys.{IsKeyText, IsTextOf}
use Rattle.annex_keys.specs.Plain.{PlainKey}
use Rattle.annex_keys.specs.Pointers.{IsPointer}
use Rattle.annex_keys.specs.Stops.{StopsAt}

-- A text is of one key at most, and one without a key stops at one place. Bytes point to one key at
-- most.
pub record HaveOneReading : Type 0 where
  pub key : (text : List ℕ) (one two : PlainKey) → IsTextOf one text → IsTextOf two text → one ≡ two
  pub place : (text : List ℕ) (m n : ℕ) → StopsAt IsKeyText text m → StopsAt IsKeyText text n
      → m ≡ n
  pub pointer : (bytes : List ℕ) (one two : PlainKey) → IsPointer bytes one → IsPointer bytes two
      → one ≡ two
