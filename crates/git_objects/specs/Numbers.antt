-- Numbers in texts.
use Rattle.std.specs.Prelude.{◌≡◌, ℕ, ◌<◌, ◌^◌, List, decimal}

-- A number's text: its decimal digits, with no sign and no leading zero, one `0` for zero.
abbrev pub number_text : ℕ → List ℕ
number_text n = decimal n

-- A number that is read from a text: this is its text, and it has at most 64 bits.
pub record IsNumber (text : List ℕ) (n : ℕ) : Type 0 where
  pub printed : text ≡ number_text n
  pub size : n < 2 ^ 64
