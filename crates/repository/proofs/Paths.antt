-- The paths of objects and of temporary files are paths, and short.
use Rattle.std.proofs.Common.{◌≡◌, ◌≤◌, ◌<◌, ◌/◌, ◌%◌, ◌^◌, ◌==◌, ℕ, Bool, true, false, ◌&&◌, ◌||◌, List, [], ◌∷◌, ◌++◌, length, take, drop, slice_index, refl, ap, ◌∙◌, arith, length-append, length-drop}
use Rattle.std.specs.Prelude.{codes, decimal, nat_lt, bytes_eq, Some}
use Rattle.std.specs.List.{All, list_any, list_all}
use Rattle.std.specs.Str.{IsAscii}
use Rattle.std.proofs.lemmas.Bool.Decides.{nat_tests}
use Rattle.std.proofs.lemmas.Fmt.{decimal_is_IsNumeral, decimal_nonempty, length-decimal-le}
use Rattle.std.proofs.lemmas.List.Elements.{All-nil, All-cons, All-head, All-tail, All-from_get_or, All-take, All-drop, All-weaker}
use Rattle.std.proofs.lemmas.List.{length-take-le}
use Rattle.std.proofs.lemmas.List.Sums.{AllPass-from_list_all}
use Rattle.std.proofs.lemmas.Str.{IsAscii-append, IsAscii-take, IsAscii-drop}
use Rattle.std.proofs.lemmas.Str.Ascii.{IsAscii-cons, IsAscii-from_all}
use Rattle.std.proofs.lemmas.Str.Parse.{digit_at}
use Rattle.hex.specs.Hex.{encode_with, lower_digits, hex_digit_value}
use Rattle.hex.proofs.HexLemmas.{length-encode_with, IsAscii-encode_with, IsDigits-lower_digits}
use Rattle.places.specs.All.{Names, slash, is_name, pieces, is_path}
use Rattle.places.proofs.Texts.{pieces-append, pieces_one}
use Rattle.git_objects.specs.All.{hex_of}
use Rattle.repository.specs.Layout.{object_names}

-- ---- digits

-- neither NUL, a dot nor a slash
abbrev pub AreHigh : List ℕ → Type 0
AreHigh n = All (λ b. 48 ≤ b) n

or_false : (a b : Bool) → a ≡ false → b ≡ false → (a || b) ≡ false
or_false a b h k = λ i. h i || k i

and_false : (a b : Bool) → a ≡ false → (a && b) ≡ false
and_false a b h = λ i. h i && b

no_low : (n : List ℕ) (c : ℕ) → c < 48 → AreHigh n → list_any (λ b. b == c) n ≡ false
no_low [] c low h = refl
no_low (b ∷ n) c low h =
    let high : 48 ≤ b = All-head (λ x. 48 ≤ x) b n h in
    let differ : (b == c) ≡ false = grind arith in
    or_false (b == c) (list_any (λ x. x == c) n) differ (no_low n c low (All-tail (λ x. 48 ≤ x) b n h))

no_dot : (n rest : List ℕ) → AreHigh n → bytes_eq n (46 ∷ rest) ≡ false
no_dot [] rest h = refl
no_dot (b ∷ n) rest h =
    let high : 48 ≤ b = All-head (λ x. 48 ≤ x) b n h in
    let differ : (b == 46) ≡ false = grind arith in
    and_false (b == 46) (bytes_eq n rest) differ

all_parts : (a b : Bool) (n : List ℕ) → 0 < length n → length n ≤ 255 → AreHigh n → is_name n ≡ true
unfolding is_name
all_parts a b n some short h =
    let nul = no_low n 0 (omega arith) h in
    let slashes = no_low n slash (omega arith) h in
    let dot = no_dot n [] h in
    let dots = no_dot n (46 ∷ []) h in
    grind (arith, nat_tests, nul, slashes, dot, dots)

-- digits make a name
pub digits_name : (n : List ℕ) → 0 < length n → length n ≤ 255 → AreHigh n → is_name n ≡ true
digits_name n some short h = all_parts true true n some short h

-- ---- hexadecimal digits

digit_high : (d : ℕ) → d < 16 → 48 ≤ slice_index lower_digits d
digit_high d small = by (slice_index lower_digits d) (IsDigits-lower_digits d small)
  where
    by : (c : ℕ) → hex_digit_value c ≡ Some d → 48 ≤ c
    by c h = grind (arith, nat_tests)

hex_high : (id : List ℕ) → All (λ b. b < 256) id → AreHigh (encode_with lower_digits id)
unfolding encode_with
hex_high [] h = All-nil (λ b. 48 ≤ b)
hex_high (b ∷ id) h =
    let small : b < 256 = All-head (λ x. x < 256) b id h in
    let low = slice_index lower_digits (b % 16) in
    All-cons (λ x. 48 ≤ x) (slice_index lower_digits (b / 16)) (low ∷ encode_with lower_digits id) (digit_high (b / 16) (omega arith))
    (All-cons (λ x. 48 ≤ x) low (encode_with lower_digits id) (digit_high (b % 16) (omega arith)) (hex_high id (All-tail (λ x. x < 256) b id h)))

-- the digits of an id
pub record AreDigits (digits : List ℕ) : Type 0 where
  pub whole : length digits ≡ 40
  pub high : AreHigh digits
  pub ascii : IsAscii digits

literal_ascii : (bs : List ℕ) → list_all (λ b. nat_lt b 128) bs ≡ true → IsAscii bs
literal_ascii bs h = IsAscii-from_all bs (All-weaker (λ b. nat_lt b 128 ≡ true) (λ b. b < 128) (λ b k. grind (arith, nat_tests)) bs (AllPass-from_list_all (λ b. nat_lt b 128) bs h))

pub digits_of_id : (id : List ℕ) → length id ≡ 20 → ((i : ℕ) → slice_index id i < 256) → AreDigits (hex_of id)
digits_of_id id whole bytes = record {
  whole = omega (arith, length-encode_with lower_digits id);
  high = hex_high id (All-from_get_or (λ b. b < 256) id 0 (λ i lt. bytes i));
  ascii = IsAscii-encode_with lower_digits id (literal_ascii lower_digits refl);
}

-- ---- an object's path

abbrev pub path_of_digits : List ℕ → List ℕ
path_of_digits digits = codes "objects/" ++ (take 2 digits ++ slash ∷ drop 2 digits)

-- the two parts of the digits are names
pub record AreParts (digits : List ℕ) : Type 0 where
  pub first : is_name (take 2 digits) ≡ true
  pub rest : is_name (drop 2 digits) ≡ true
  pub first_whole : list_any (λ b. b == slash) (take 2 digits) ≡ false
  pub rest_whole : list_any (λ b. b == slash) (drop 2 digits) ≡ false

parts_of : (digits : List ℕ) → AreDigits digits → AreParts digits
parts_of digits h =
    let high_first = All-take (λ b. 48 ≤ b) 2 digits h.high in
    let high_rest = All-drop (λ b. 48 ≤ b) 2 digits h.high in
    let size_first = length-take-le 2 digits (omega (arith, h.whole)) in
    let size_rest = length-drop 2 digits in
    record {
      first = digits_name (take 2 digits) (omega arith) (omega arith) high_first;
      rest = digits_name (drop 2 digits) (omega (arith, h.whole)) (omega (arith, h.whole)) high_rest;
      first_whole = no_low (take 2 digits) slash (omega arith) high_first;
      rest_whole = no_low (drop 2 digits) slash (omega arith) high_rest;
    }

pub object_pieces : (digits : List ℕ) → AreDigits digits → pieces (path_of_digits digits) ≡ object_names digits
object_pieces digits h =
    let parts = parts_of digits h in
    pieces-append (codes "objects") (take 2 digits ++ slash ∷ drop 2 digits)
    ∙ ap (λ (z : Names). codes "objects" ∷ z)
    (pieces-append (take 2 digits) (drop 2 digits)
    ∙ ap (λ (z : Names). z ++ pieces (drop 2 digits)) (pieces_one (take 2 digits) parts.first_whole)
    ∙ ap (λ (z : Names). take 2 digits ∷ z) (pieces_one (drop 2 digits) parts.rest_whole))

pub object_is_path : (digits : List ℕ) → AreDigits digits → is_path (path_of_digits digits) ≡ true
unfolding is_path is_name
object_is_path digits h =
    let parts = parts_of digits h in
    ap (list_all is_name) (object_pieces digits h) ∙ named (is_name (codes "objects")) (is_name (take 2 digits)) (is_name (drop 2 digits)) objects_name parts.first parts.rest
  where
    objects_name : is_name (codes "objects") ≡ true
    objects_name = refl

    named : (a b c : Bool) → a ≡ true → b ≡ true → c ≡ true → (a && (b && (c && true))) ≡ true
    named a b c x y z = λ i. x i && (y i && (z i && true))

pub object_path_size : (digits : List ℕ) → AreDigits digits → length (path_of_digits digits) ≡ 49
object_path_size digits h =
    let size_first = length-take-le 2 digits (omega (arith, h.whole)) in
    omega (arith, h.whole, length-drop 2 digits, length-append (take 2 digits) (slash ∷ drop 2 digits), size_first)

pub object_path_ascii : (digits : List ℕ) → AreDigits digits → IsAscii (path_of_digits digits)
object_path_ascii digits h =
    IsAscii-append (codes "objects/") _ (literal_ascii (codes "objects/") refl)
    (IsAscii-append (take 2 digits) _ (IsAscii-take digits 2 h.ascii) (IsAscii-cons slash _ (omega arith) (IsAscii-drop digits 2 h.ascii)))

-- ---- a temporary file's path

abbrev pub tmp_path : ℕ → List ℕ
tmp_path n = codes "tmp/" ++ decimal n

decimal_high : (n : ℕ) → n < 2 ^ 64 → AreHigh (decimal n)
decimal_high n small = All-from_get_or (λ b. 48 ≤ b) (decimal n) 0 (λ i lt. let in_range = digit_at (decimal n) i (decimal_is_IsNumeral n small).0.1 lt in omega arith)

decimal_size : (n : ℕ) → n < 2 ^ 64 → length (decimal n) ≤ 20
decimal_size n small = length-decimal-le 20 n (omega arith) (omega arith) small

pub tmp_pieces : (n : ℕ) → n < 2 ^ 64 → pieces (tmp_path n) ≡ codes "tmp" ∷ decimal n ∷ []
tmp_pieces n small =
    pieces-append (codes "tmp") (decimal n)
    ∙ ap (λ (z : Names). codes "tmp" ∷ z) (pieces_one (decimal n) (no_low (decimal n) slash (omega arith) (decimal_high n small)))

pub tmp_is_path : (n : ℕ) → n < 2 ^ 64 → is_path (tmp_path n) ≡ true
unfolding is_path is_name
tmp_is_path n small =
    let some = decimal_nonempty n small in
    let short = decimal_size n small in
    ap (list_all is_name) (tmp_pieces n small)
    ∙ named (is_name (codes "tmp")) (is_name (decimal n)) tmp_name (digits_name (decimal n) some (omega arith) (decimal_high n small))
  where
    tmp_name : is_name (codes "tmp") ≡ true
    tmp_name = refl

    named : (a b : Bool) → a ≡ true → b ≡ true → (a && (b && true)) ≡ true
    named a b x y = λ i. x i && (y i && true)

pub tmp_path_size : (n : ℕ) → n < 2 ^ 64 → length (tmp_path n) ≤ 24
tmp_path_size n small = omega (arith, decimal_size n small)
