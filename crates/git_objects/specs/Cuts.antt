-- Texts that are cut at a byte.
use Rattle.std.specs.Prelude.{◌≡◌, ℕ, false, ◌==◌, List, ◌∷◌, ◌++◌}
use Rattle.std.specs.List.{list_any}

-- The byte at a line's end.
abbrev pub newline : ℕ
newline = 10

-- A text without this byte.
abbrev pub Lacks : ℕ → List ℕ → Type 0
Lacks byte text = list_any (λ b. b == byte) text ≡ false

-- What stands before the first such byte, and what follows it.
pub record IsCut (byte : ℕ) (text front back : List ℕ) : Type 0 where
  pub parts : text ≡ front ++ byte ∷ back
  pub first : Lacks byte front
