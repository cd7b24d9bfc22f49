-- What a text of hexadecimal digits says of the id that it reads as.
use Rattle.std.proofs.Common.{◌≡◌, ℕ, zero, suc, ◌+◌, ◌*◌, ◌/◌, ◌%◌, ◌<◌, ◌==◌, Bool, true, ◌&&◌, inl, inr, List, [], ◌∷◌, slice_index, Option, Some, None, Result, Ok, Err, map, refl, sym, ap, ◌∙◌, arith}
use Rattle.std.specs.Char.{is_ascii_hexdigit, to_ascii_lowercase}
use Rattle.std.specs.Prelude.{IsOk}
use Rattle.std.proofs.lemmas.Bool.{and_parts, cases_lt, eqb-true}
use Rattle.std.proofs.lemmas.Bool.Decides.{nat_tests}
use Rattle.std.proofs.lemmas.List.Elements.{All-weaker}
use Rattle.hex.specs.Hex.{IsBytes, decode_of, decode_pairs, decode_sized, digit_or_error}
use Rattle.hex.specs.Hex.{encode_with, hex_digit_value, is_hex_digit, lower_digits, pair_value}
use Rattle.hex.specs.Hex.{value_at, ◌>>=◌}
use Rattle.hex.specs.declared.error.FromHexError.{FromHexError}
use Rattle.hex.proofs.HexLemmas.{IsOk-decode_sized, IsDigits-lower_digits, decode_of-encode_lower, decode_of-even, decode_of-same, decode_pairs-encode_with, decode_sized-twice}
use Rattle.git_objects.specs.Ids.{hex_of, lowered, IsDigits}

-- a digit's value is the place of the small digit
reads : ℕ → Option ℕ → Bool
reads c (Some v) = slice_index lower_digits v == to_ascii_lowercase c
reads c None = true

all_read : ℕ → Bool
all_read zero = true
all_read (suc n) = reads n (hex_digit_value n) && all_read n

all_read-at : (n k : ℕ) → all_read n ≡ true → k < n → reads k (hex_digit_value k) ≡ true
unfolding all_read
all_read-at zero k h lt = absurd (omega arith)
all_read-at (suc n) k h lt =
    let parts = and_parts (reads n (hex_digit_value n)) (all_read n) h in
    elim (cases_lt k n) [
      | inl below ↦ all_read-at n k parts.1 below
      | inr top ↦
          let e : k ≡ n = omega arith in
          rw e parts.0
    ]

all_read-103 : all_read 103 ≡ true
unfolding all_read reads
all_read-103 = refl

digit_below : (c v : ℕ) → hex_digit_value c ≡ Some v → c < 103
digit_below c v h = grind arith

digit_small : (c v : ℕ) → hex_digit_value c ≡ Some v → v < 16
digit_small c v h = grind arith

read_some : (c v : ℕ) (o : Option ℕ) → reads c o ≡ true → o ≡ Some v → slice_index lower_digits v ≡ to_ascii_lowercase c
unfolding reads
read_some c v (Some w) h e =
    let same : w ≡ v = cc e in
    rw (← same) (eqb-true (slice_index lower_digits w) (to_ascii_lowercase c) h)
read_some c v None h e = cc e

digit_lowered : (c v : ℕ) → hex_digit_value c ≡ Some v → slice_index lower_digits v ≡ to_ascii_lowercase c
digit_lowered c v h = read_some c v (hex_digit_value c) (all_read-at 103 c all_read-103 (digit_below c v h)) h

bind_ok : {A B : Type 0} (r : Result A FromHexError) (f : A → Result B FromHexError) (y : B)
    → (r >>= f) ≡ Ok y → (x : A) × (r ≡ Ok x) × (f x ≡ Ok y)
bind_ok (Ok x) f y h = (x, refl, h)
bind_ok (Err e) f y h = cc h

digit_read : (c i : ℕ) (o : Option ℕ) (v : ℕ) → digit_or_error c i o ≡ Ok v → o ≡ Some v
digit_read c i (Some w) v h = let e : w ≡ v = cc h in ap Some e
digit_read c i None v h = cc h

-- pairs of digits read as the bytes whose small digits they are, but for their case
encode_with-decoded : (i : ℕ) (s bytes : List ℕ) → decode_pairs i s ≡ Ok bytes → encode_with lower_digits bytes ≡ map to_ascii_lowercase s
unfolding decode_pairs encode_with
encode_with-decoded i [] bytes h =
    let e : [] ≡ bytes = cc h in
    rw (← e) refl
encode_with-decoded i (a ∷ []) bytes h = cc h
encode_with-decoded i (a ∷ b ∷ rest) bytes h =
    let p0 = bind_ok (pair_value a b i) _ bytes h in
    let p1 = bind_ok (value_at a i) _ p0.0 p0.1 in
    let p2 = bind_ok (value_at b (i + 1)) _ p0.0 p1.2 in
    let p3 = bind_ok (decode_pairs (i + 2) rest) _ bytes p0.2 in
    let high = digit_read a i (hex_digit_value a) p1.0 p1.1 in
    let low = digit_read b (i + 1) (hex_digit_value b) p2.0 p2.1 in
    let small_high = digit_small a p1.0 high in
    let small_low = digit_small b p2.0 low in
    let byte : p1.0 * 16 + p2.0 ≡ p0.0 = cc p2.2 in
    let whole : p0.0 ∷ p3.0 ≡ bytes = cc p3.2 in
    let first : p0.0 / 16 ≡ p1.0 = omega arith in
    let second : p0.0 % 16 ≡ p2.0 = omega arith in
    let rest_is = encode_with-decoded (i + 2) rest p3.0 p3.1 in
    rw (← whole) (λ j. (ap (slice_index lower_digits) first ∙ digit_lowered a p1.0 high) j ∷ (ap (slice_index lower_digits) second ∙ digit_lowered b p2.0 low) j ∷ rest_is j)

to_ascii : (c : ℕ) → is_hex_digit c ≡ true → is_ascii_hexdigit c ≡ true
to_ascii c h = grind (arith, nat_tests)

from_ascii : (c : ℕ) → is_ascii_hexdigit c ≡ true → is_hex_digit c ≡ true
from_ascii c h = grind (arith, nat_tests)

-- what reads as an id are its digits
pub digits_read : (s bytes : List ℕ) → decode_sized s 20 ≡ Ok bytes → IsDigits s × (hex_of bytes ≡ lowered s)
digits_read s bytes h =
    let ok : IsOk (decode_sized s 20) = rw h refl in
    let digits = (IsOk-decode_sized s 20).0 ok in
    let even = decode_of-even s (omega arith) in
    let pairs : decode_pairs 0 s ≡ Ok bytes = sym even ∙ sym (decode_sized-twice s 20 digits.0) ∙ h in (
      record { whole = digits.0; each = All-weaker (λ c. is_hex_digit c ≡ true) (λ c. is_ascii_hexdigit c ≡ true) to_ascii s digits.1 },
      encode_with-decoded 0 s bytes pairs,
    )

-- what doesn't read has no 40 digits
pub no_digits : (s : List ℕ) (e : FromHexError) → decode_sized s 20 ≡ Err e → IsDigits s → ⊥
no_digits s e h digits =
    let ok = (IsOk-decode_sized s 20).1 (digits.whole, All-weaker (λ c. is_ascii_hexdigit c ≡ true) (λ c. is_hex_digit c ≡ true) from_ascii s digits.each) in
    cc (rw h at ok)

-- an id's own digits are small
pub lowered-hex_of : (bytes : List ℕ) → IsBytes bytes → lowered (hex_of bytes) ≡ hex_of bytes
lowered-hex_of bytes h = sym (encode_with-decoded 0 (hex_of bytes) bytes (decode_pairs-encode_with lower_digits IsDigits-lower_digits 0 bytes h))

-- and tell it from any other
pub hex_of-injective : (one two : List ℕ) → IsBytes one → IsBytes two → hex_of one ≡ hex_of two → one ≡ two
hex_of-injective one two h k e =
    decode_of-same (hex_of two) one two (ap decode_of (sym e) ∙ decode_of-encode_lower one h) (decode_of-encode_lower two k)
