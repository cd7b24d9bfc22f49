-- The digits in a directory's name.
use Rattle.std.proofs.Common.{◌≡◌, ℕ, ◌*◌, ◌/◌, ◌%◌, ◌<◌, ◌≤◌, true, List, [], ◌∷◌, ◌++◌, length, take, drop, refl, arith}
use Rattle.std.specs.Prelude.{IsAscii, slice_index}
use Rattle.std.proofs.lemmas.Bool.Decides.{nat_tests}
use Rattle.std.proofs.lemmas.Str.{IsAscii-append, IsAscii-drop, IsAscii-take}
use Rattle.std.proofs.lemmas.Str.Ascii.{IsAscii-cons, IsAscii-from_reads, IsAscii-nil}
use Rattle.hex.specs.Hex.{encode_lower, encode_with, lower_digits}
use Rattle.hex.proofs.HexLemmas.{length-encode_with}
use Rattle.annex_keys.specs.Contents.{directories}
use Rattle.annex_keys.specs.Steps.{is_lower_digit}
use Rattle.annex_keys.proofs.Digests.{digit_written}

lower_small : (b : ℕ) → is_lower_digit b ≡ true → b < 128
lower_small b h = grind (arith, nat_tests)

lower_digits_ascii : IsAscii lower_digits
lower_digits_ascii =
    let size : length lower_digits ≡ 16 = refl in
    IsAscii-from_reads lower_digits 16 (omega arith) (λ k lt. lower_small (slice_index lower_digits k) (digit_written k lt))

pub digits_ascii : (bytes : List ℕ) → IsAscii (encode_lower bytes)
unfolding encode_with
digits_ascii [] = IsAscii-nil
digits_ascii (b ∷ bs) =
    IsAscii-cons (slice_index lower_digits (b / 16)) (slice_index lower_digits (b % 16) ∷ encode_lower bs) (lower_digits_ascii (b / 16))
    (IsAscii-cons (slice_index lower_digits (b % 16)) (encode_lower bs) (lower_digits_ascii (b % 16)) (digits_ascii bs))

pub digits_long : (bytes : List ℕ) → length (encode_lower bytes) ≡ 2 * length bytes
digits_long bytes = length-encode_with lower_digits bytes

pub directories_ascii : (digits : List ℕ) → IsAscii digits → IsAscii (directories digits)
directories_ascii digits h =
    IsAscii-append (take 3 digits) (47 ∷ take 3 (drop 3 digits)) (IsAscii-take digits 3 h)
    (IsAscii-cons 47 (take 3 (drop 3 digits)) (omega arith) (IsAscii-take (drop 3 digits) 3 (IsAscii-drop digits 3 h)))
