-- How reading ends.
use Rattle.std.specs.Prelude.{◌≡◌, ℕ, List, Option, Some, None, Result, Ok, Err}
use Rattle.annex_keys.specs.declared.errors.KeyErr.{KeyErr}
use Rattle.annex_keys.specs.declared.errors.KeyErr.TheVariants.{BadKey, NoMemory}
use Rattle.annex_keys.specs.Keys.{IsKeyText, IsTextOf}
use Rattle.annex_keys.specs.Plain.{PlainKey}
use Rattle.annex_keys.specs.Pointers.{IsPointer}
use Rattle.annex_keys.specs.Stops.{StopsAt}

-- The text is no key's, and stops being one at this byte; or memory is wanting.
abbrev pub RefusesKey : List ℕ → KeyErr → Type 0
RefusesKey text (BadKey at) = StopsAt IsKeyText text at
RefusesKey text NoMemory = Unit {0}

-- A key: Ok exactly on the grammar, with the key whose text it is.
abbrev pub KeyReadEnds : List ℕ → Result PlainKey KeyErr → Type 0
KeyReadEnds text (Ok key) = IsTextOf key text
KeyReadEnds text (Err e) = RefusesKey text e

-- Some exactly where the bytes are a pointer, with its key.
abbrev pub PointerReadEnds : List ℕ → Result (Option PlainKey) KeyErr → Type 0
PointerReadEnds bytes (Ok (Some key)) = IsPointer bytes key
PointerReadEnds bytes (Ok None) = (key : PlainKey) → IsPointer bytes key → ⊥
PointerReadEnds bytes (Err e) = e ≡ NoMemory
