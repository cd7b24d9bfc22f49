-- Pointers: the texts that stand in place of a file's bytes.
use Rattle.std.specs.Prelude.{◌≡◌, List, [], ◌∷◌, ◌++◌, ◌⊎◌, codes}
use Rattle.std.specs.Prelude.{ℕ}
use Rattle.annex_keys.specs.Keys.{IsKey, key_text}
use Rattle.annex_keys.specs.Plain.{PlainKey}

-- The byte at a pointer's end.
abbrev pub newline : ℕ
newline = 10

-- /annex/objects/KEY
abbrev pub pointer_line : PlainKey → List ℕ
pointer_line key = codes "/annex/objects/" ++ key_text key

-- The line and its newline.
abbrev pub pointer_text : PlainKey → List ℕ
pointer_text key = pointer_line key ++ newline ∷ []

-- Bytes that are a pointer to a key, with or without the newline.
pub record IsPointer (bytes : List ℕ) (key : PlainKey) : Type 0 where
  pub stored : IsKey key
  pub printed : (bytes ≡ pointer_text key) ⊎ (bytes ≡ pointer_line key)

-- A line without its newline, if it has one.
abbrev pub IsStripped : List ℕ → List ℕ → Type 0
IsStripped line text =
    (line ≡ text ++ newline ∷ [])
    ⊎ ((text ≡ line) × ((front : List ℕ) → line ≡ front ++ newline ∷ [] → ⊥))
