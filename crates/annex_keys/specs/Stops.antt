-- Where a text stops being one of a grammar. A grammar is given by its texts.
use Rattle.std.specs.Prelude.{ℕ, ◌+◌, ◌<◌, ◌≤◌, List, ◌++◌, length, take}

-- Some text of the grammar begins so.
pub record Begins (grammar : List ℕ → Type 0) (front : List ℕ) : Type 0 where
  pub rest : List ℕ
  pub whole : grammar (front ++ rest)

-- The text is none of the grammar. Its bytes before this place begin one, and those up to this byte
-- do not; where the place is the end, the whole text begins one.
pub record StopsAt (grammar : List ℕ → Type 0) (text : List ℕ) (at : ℕ) : Type 0 where
  pub within : at ≤ length text
  pub begins : Begins grammar (take at text)
  pub stops : at < length text → Begins grammar (take (at + 1) text) → ⊥
  pub none : grammar text → ⊥
