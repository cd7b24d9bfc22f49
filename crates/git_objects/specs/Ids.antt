-- Ids and their digits.
use Rattle.std.specs.Prelude.{◌≡◌, ℕ, ◌<◌, List, length, map, slice_index}
use Rattle.std.specs.Char.{is_ascii_hexdigit, to_ascii_lowercase}
use Rattle.std.specs.List.{AllPass}
use Rattle.hex.specs.Hex.{encode_lower}

-- 20 bytes.
pub record IsId (id : List ℕ) : Type 0 where
  pub whole : length id ≡ 20
  pub bytes : (i : ℕ) → slice_index id i < 256

-- The 40 lower-case hexadecimal digits of an id.
abbrev pub hex_of : List ℕ → List ℕ
hex_of id = encode_lower id

-- 40 hexadecimal digits of either case.
pub record IsDigits (text : List ℕ) : Type 0 where
  pub whole : length text ≡ 40
  pub each : AllPass is_ascii_hexdigit text

-- A text with its capital letters made small.
abbrev pub lowered : List ℕ → List ℕ
lowered text = map to_ascii_lowercase text
