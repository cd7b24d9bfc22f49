-- What a number's text says of its reading, and which bytes it lacks.
use Rattle.std.proofs.Common.{◌≡◌, ℕ, zero, suc, ◌+◌, ◌<◌, ◌^◌, Bool, true, false, cond, not, ◌||◌, List, [], ◌∷◌, Result, Ok, Err, refl, sym, ap, ◌∙◌, subst, arith}
use Rattle.std.specs.Prelude.{◌==◌, ◌/◌, ◌%◌, nat_lt, IsUtf8, bytes_eq}
use Rattle.std.specs.Fmt.{digits, digits_onto, digit_glyph}
use Rattle.std.specs.List.{list_any}
use Rattle.std.specs.Str.Parse.{ParsesUnsigned, digits_value}
use Rattle.std.proofs.lemmas.Bool.{false≢true}
use Rattle.std.proofs.lemmas.Fmt.{IsAscii-decimal, decimal_is_IsNumeral, parse-decimal}
use Rattle.std.proofs.lemmas.Slice.Eq.{bytes_eq-Decides}
use Rattle.std.proofs.lemmas.Str.{IsUtf8-from_ascii}
use Rattle.places.proofs.Texts.{not_true}
use Rattle.git_objects.specs.Cuts.{Lacks}
use Rattle.git_objects.specs.Numbers.{number_text, IsNumber}

pub number_utf8 : (text : List ℕ) (n : ℕ) → IsNumber text n → IsUtf8 text
number_utf8 text n h = subst IsUtf8 (sym h.printed) (IsUtf8-from_ascii (number_text n) (IsAscii-decimal n h.size))

pub number_read : {E : Type 0} (text : List ℕ) (n : ℕ) (r : Result ℕ E) → IsNumber text n → ParsesUnsigned 64 10 text r → r ≡ Ok n
number_read text n r h parsed = parse-decimal 64 n text r h.size h.size h.printed parsed

-- what is printed as another text isn't its number
pub same_number : (printed digits text : List ℕ) (m n : ℕ) → printed ≡ number_text m → digits ≡ text → m ≡ n → IsNumber text n → not (bytes_eq printed digits) ≡ true → ⊥
same_number printed digits text m n is same e h differs =
    false≢true (sym (not_true (bytes_eq printed digits) differs) ∙ (bytes_eq-Decides printed digits).1 (is ∙ ap number_text e ∙ sym h.printed ∙ sym same))

pub printed_back : (printed digits text : List ℕ) (m : ℕ) → printed ≡ number_text m → digits ≡ text → not (bytes_eq printed digits) ≡ false → text ≡ number_text m
printed_back printed digits text m is same alike =
    sym same ∙ sym ((bytes_eq-Decides printed digits).0 (not_false (bytes_eq printed digits) alike)) ∙ is
  where
    not_false : (b : Bool) → not b ≡ false → b ≡ true
    not_false true h = ap not h
    not_false false h = ap not h

pub number_size : {E : Type 0} (text : List ℕ) (n : ℕ) (r : Result ℕ E) → ParsesUnsigned 64 10 text r → r ≡ Ok n → n < 2 ^ 64
number_size text n (Ok m) parsed e =
    let same : m ≡ n = cc e in
    subst (λ (z : ℕ). z < 2 ^ 64) (sym parsed.1 ∙ same) parsed.0.1
number_size text n (Err e) parsed same = absurd (cc same)

-- ---- bytes below the digits

glyph_other : (byte : ℕ) → byte < 48 → (b : Bool) (d : ℕ) → (cond b (48 + d) (cond false (55 + d) (87 + d)) == byte) ≡ false
glyph_other byte low true d = grind arith
glyph_other byte low false d = grind arith

digits_lack : (byte : ℕ) → byte < 48 → (k n : ℕ) (acc : List ℕ) → Lacks byte acc → Lacks byte (digits_onto k 10 false n acc)
digits_lack byte low zero n acc h = h
digits_lack byte low (suc k) n acc h =
    let here : Lacks byte (digit_glyph false (n % 10) ∷ acc) = (λ i. glyph_other byte low (nat_lt (n % 10) 10) (n % 10) i || list_any (λ c. c == byte) acc) ∙ h in
    elim (n / 10 == 0) as (λ b. Lacks byte (cond b (digit_glyph false (n % 10) ∷ acc) (digits_onto k 10 false (n / 10) (digit_glyph false (n % 10) ∷ acc)))) [
      | true ↦ here
      | false ↦ digits_lack byte low k (n / 10) (digit_glyph false (n % 10) ∷ acc) here
    ]

pub number_lacks : (byte n : ℕ) → byte < 48 → Lacks byte (number_text n)
unfolding digits
number_lacks byte n low = digits_lack byte low 64 n [] refl

-- ---- one reading

pub number_once : (m n : ℕ) → m < 2 ^ 64 → n < 2 ^ 64 → number_text m ≡ number_text n → m ≡ n
number_once m n h k e = sym (decimal_is_IsNumeral m h).1 ∙ ap (digits_value 10) e ∙ (decimal_is_IsNumeral n k).1
