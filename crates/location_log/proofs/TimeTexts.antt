-- Texts of numbers and of times.
use Rattle.std.proofs.Common.{◌≡◌, ℕ, ◌+◌, ◌-◌, ◌*◌, ◌^◌, ◌<◌, ◌≤◌, true, false, List, [], ◌∷◌, ◌++◌, length, get_or, Result, Ok, Err, decimal, inl, inr, refl, sym, ap, ◌∙◌, subst, arith, rules}
use Rattle.std.specs.Prelude.{◌==◌, ◌⊎◌, ◌&&◌, ◌||◌, IsUtf8, MatchOption, not}
use Rattle.std.specs.Char.{is_ascii_digit}
use Rattle.std.specs.List.{list_all, list_any}
use Rattle.std.specs.Result.{result_ok}
use Rattle.std.specs.Str.Parse.{ParsesUnsigned, digits_value}
use Rattle.std.proofs.lemmas.Bool.{and_from, and_parts, cases_eq, cases_lt, eq-eqb, false≢true, ne_eqb, not_from_false, not_from_true, or_from, or_left, or_right}
use Rattle.std.proofs.lemmas.Fmt.{IsAscii-from_digits, decimal-digits_value, decimal_digit, decimal_injective, decimal_nonempty, digits_decimal, digits_value-decimal, first_decimal}
use Rattle.std.proofs.lemmas.Int.Digits.{digits_value-lt}
use Rattle.std.proofs.lemmas.List.{append-nil}
use Rattle.std.proofs.lemmas.Nat.{pow-add}
use Rattle.std.proofs.lemmas.Str.{IsUtf8-from_ascii}
use Rattle.std.proofs.lemmas.Str.Parse.{IsNumeralModel, numerals_by_value, parse_digits}
use Rattle.std.proofs.Math.Nat.{mul-le-mul_left, one-le-pow}
use Rattle.config_text.specs.Settings.{is_number}
use Rattle.location_log.specs.Steps.{IsCut, Lacks}
use Rattle.location_log.specs.Texts.{IsFraction, IsRest, IsTimeText}
use Rattle.location_log.proofs.CutTexts.{cut_none, cut_once, lacks-append}

abbrev pub AreDigits : List ℕ → Type 0
AreDigits ds = list_all is_ascii_digit ds ≡ true

pub numerals : IsNumeralModel AreDigits (digits_value 10)
numerals = numerals_by_value AreDigits (search rules)

pub digits_utf8 : (ds : List ℕ) → AreDigits ds → IsUtf8 ds
digits_utf8 ds h = IsUtf8-from_ascii ds (IsAscii-from_digits ds (numerals.to ds h))

pub decimal_digits : (n : ℕ) → n < 2 ^ 64 → AreDigits (decimal n)
decimal_digits n h = digits_decimal numerals n h

-- ---- numbers
pub number_digits : (bytes : List ℕ) → is_number bytes ≡ true → AreDigits bytes
unfolding is_number
number_digits bytes h = (and_parts _ _ (and_parts _ _ h).1).0

number_front : (bytes : List ℕ) → is_number bytes ≡ true → 1 < length bytes → get_or bytes 0 0 ≡ 48 → ⊥
unfolding is_number
number_front bytes h long front =
    let last = (and_parts _ _ (and_parts _ _ h).1).1 in
    let many : (length bytes == 1) ≡ false = ne_eqb (length bytes) 1 (λ e. omega arith) in
    let zero : not (get_or bytes 0 0 == 48) ≡ false = not_from_true (get_or bytes 0 0 == 48) (eq-eqb (get_or bytes 0 0) 48 front) in
    false≢true (sym (or_from (length bytes == 1) (not (get_or bytes 0 0 == 48)) many zero) ∙ last)

front_some : (n : ℕ) → n < 2 ^ 64 → (length (decimal n) ≡ 1 → ⊥) → get_or (decimal n) 0 0 ≡ 48 → ⊥
front_some n small long front = elim (cases_lt 0 n) [
  | inl some ↦
      let above = first_decimal n some small in
      omega arith
  | inr none ↦
      let is : n ≡ 0 = omega arith in
      long (ap (λ (k : ℕ). length (decimal k)) is ∙ ap length (decimal_digit 0 (omega arith)))
]

decimal_number : (n : ℕ) → n < 2 ^ 64 → is_number (decimal n) ≡ true
unfolding is_number
decimal_number n small =
    let some = decimal_nonempty n small in
    and_from (not (length (decimal n) == 0)) (list_all is_ascii_digit (decimal n) && ((length (decimal n) == 1) || not (get_or (decimal n) 0 0 == 48)))
    (not_from_false (length (decimal n) == 0) (ne_eqb (length (decimal n)) 0 (λ e. omega arith)))
    (and_from (list_all is_ascii_digit (decimal n)) ((length (decimal n) == 1) || not (get_or (decimal n) 0 0 == 48)) (decimal_digits n small) (front (cases_eq (length (decimal n)) 1)))
  where
    front : (length (decimal n) ≡ 1) ⊎ (length (decimal n) ≡ 1 → ⊥) → ((length (decimal n) == 1) || not (get_or (decimal n) 0 0 == 48)) ≡ true
    front (inl one) = or_left (length (decimal n) == 1) (not (get_or (decimal n) 0 0 == 48)) (eq-eqb (length (decimal n)) 1 one)
    front (inr many) =
        or_right (length (decimal n) == 1) (not (get_or (decimal n) 0 0 == 48))
        (not_from_false (get_or (decimal n) 0 0 == 48) (ne_eqb (get_or (decimal n) 0 0) 48 (front_some n small many)))

pub no_number : (bytes : List ℕ) → is_number bytes ≡ false → (n : ℕ) → n < 2 ^ 64 → bytes ≡ decimal n → ⊥
no_number bytes h n small e = false≢true (sym h ∙ (ap is_number e ∙ decimal_number n small))

pub number_read : {E : Type 0} (bytes : List ℕ) (r : Result ℕ E) → is_number bytes ≡ true → ParsesUnsigned 64 10 bytes r
    → MatchOption (result_ok r) ((n : ℕ) → n < 2 ^ 64 → bytes ≡ decimal n → ⊥) (λ n. (n < 2 ^ 64) × (bytes ≡ decimal n))
number_read {E} bytes (Ok n) h p =
    let ds = number_digits bytes h in
    let parsed = parse_digits numerals {E = E} 64 bytes (Ok n) p ds in
    let small = parsed.0.1 in
    let is = parsed.1 in
    let lone : get_or bytes 0 0 ≡ 48 → length bytes ≡ 1 = λ e. elim (cases_lt 1 (length bytes)) [
      | inl long ↦ absurd (number_front bytes h long e)
      | inr short ↦
          let some = parsed.0.0 in
          omega arith
    ] in
    (omega arith, sym (ap decimal is ∙ decimal-digits_value numerals bytes ds parsed.0.0 lone small))
number_read {E} bytes (Err x) h p =
    λ n small e.
    let some : 0 < length bytes = subst (λ (z : List ℕ). 0 < length z) (sym e) (decimal_nonempty n small) in
    let value : digits_value 10 bytes ≡ n = ap (digits_value 10) e ∙ digits_value-decimal numerals n small in
    parse_digits numerals {E = E} 64 bytes (Err x) p (number_digits bytes h) (some, omega arith)

-- ---- fractions
pub fraction_small : (ds : List ℕ) → AreDigits ds → length ds ≤ 9 → digits_value 10 ds * 10 ^ (9 - length ds) < 1000000000
fraction_small ds h few =
    let below = digits_value-lt 10 ds (numerals.to ds h) in
    let whole : 10 ^ length ds * 10 ^ (9 - length ds) ≡ 1000000000 =
    let nine : length ds + (9 - length ds) ≡ 9 = omega arith in
    sym (pow-add 10 (length ds) (9 - length ds)) ∙ ap (λ (k : ℕ). 10 ^ k) nine in
    scaled (digits_value 10 ds) (10 ^ length ds) (10 ^ (9 - length ds)) 1000000000 below (one-le-pow (9 - length ds) 10 (omega arith)) whole
  where
    scaled : (v p m n : ℕ) → v < p → 1 ≤ m → p * m ≡ n → v * m < n
    scaled v p m n lt one e =
        let le : v + 1 ≤ p = omega arith in
        let more = mul-le-mul_left m le in
        omega arith

pub value_small : (ds : List ℕ) → AreDigits ds → length ds ≤ 9 → digits_value 10 ds < 1000000000
value_small ds h few =
    let small = fraction_small ds h few in
    let one = one-le-pow (9 - length ds) 10 (omega arith) in
    less (digits_value 10 ds) (10 ^ (9 - length ds)) one small
  where
    less : (v m : ℕ) → 1 ≤ m → v * m < 1000000000 → v < 1000000000
    less v m one h =
        let more = mul-le-mul_left v one in
        omega arith

pub fraction_unread : {E : Type 0} (ds : List ℕ) (r : Result ℕ E) → ((m : ℕ) → r ≡ Ok m → ⊥) → ParsesUnsigned 32 10 ds r → (n : ℕ) → IsFraction n ds → ⊥
fraction_unread {E} ds (Ok m) none p n f = none m refl
fraction_unread {E} ds (Err x) none p n f =
    let below = value_small ds f.each f.few in
    parse_digits numerals {E = E} 32 ds (Err x) p f.each (f.some, omega arith)

pub fraction_read : {E : Type 0} (ds : List ℕ) (r : Result ℕ E) (n unit : ℕ) → r ≡ Ok n → unit ≡ 10 ^ (9 - length ds) → AreDigits ds → length ds ≤ 9 → ParsesUnsigned 32 10 ds r
    → (n * unit < 1000000000) × IsFraction (n * unit) ds
fraction_read {E} ds (Err x) n unit e u h few p = absurd (cc e)
fraction_read {E} ds (Ok m) n unit e u h few p =
    let parsed = parse_digits numerals {E = E} 32 ds (Ok m) p h in
    let same : m ≡ n = cc e in
    let is : n * unit ≡ digits_value 10 ds * 10 ^ (9 - length ds) = λ i. (sym same ∙ parsed.1) i * u i in (
      subst (λ (k : ℕ). k < 1000000000) (sym is) (fraction_small ds h few),
      record { some = parsed.0.0; few = few; each = h; value = is },
    )

-- ---- times
pub digits_lack : (byte : ℕ) (ds : List ℕ) → is_ascii_digit byte ≡ false → AreDigits ds → Lacks byte ds
digits_lack byte [] none h = refl
digits_lack byte (c ∷ cs) none h =
    let parts = and_parts (is_ascii_digit c) (list_all is_ascii_digit cs) h in
    or_from (c == byte) (list_any (λ b. b == byte) cs)
    (ne_eqb c byte (λ e. false≢true (sym none ∙ (ap is_ascii_digit (sym e) ∙ parts.0))))
    (digits_lack byte cs none parts.1)

decimal_lacks : (byte n : ℕ) → is_ascii_digit byte ≡ false → n < 2 ^ 64 → Lacks byte (decimal n)
decimal_lacks byte n none small = digits_lack byte (decimal n) none (decimal_digits n small)

pub time_lacks : (byte secs nanos : ℕ) (text : List ℕ) → is_ascii_digit byte ≡ false → (46 == byte) ≡ false → IsTimeText secs nanos text → Lacks byte text
time_lacks byte secs nanos text none point t =
    subst (Lacks byte) (sym t.printed) (lacks-append byte (decimal secs) t.rest (decimal_lacks byte secs none t.small) (rest t.rest t.follows))
  where
    rest : (part : List ℕ) → IsRest nanos part → Lacks byte part
    rest part (inl f) = subst (Lacks byte) (sym f.0) refl
    rest part (inr f) =
        subst (Lacks byte) (sym f.2)
        (or_from (46 == byte) (list_any (λ b. b == byte) f.0) point (digits_lack byte f.0 none f.1.each))

pub whole_time : (secs nanos : ℕ) (text : List ℕ) → Lacks 46 text → IsTimeText secs nanos text → (secs < 2 ^ 64) × (text ≡ decimal secs) × (nanos ≡ 0)
whole_time secs nanos text none t = by t.rest t.follows t.printed
  where
    by : (part : List ℕ) → IsRest nanos part → text ≡ decimal secs ++ part → (secs < 2 ^ 64) × (text ≡ decimal secs) × (nanos ≡ 0)
    by part (inl f) e = (t.small, e ∙ (ap (λ (z : List ℕ). decimal secs ++ z) f.0 ∙ append-nil (decimal secs)), f.1)
    by part (inr f) e = absurd (cut_none 46 text (decimal secs) f.0 none (e ∙ ap (λ (z : List ℕ). decimal secs ++ z) f.2))

pub cut_time : (secs nanos : ℕ) (text whole ds : List ℕ) → IsCut 46 text whole ds → IsTimeText secs nanos text → (secs < 2 ^ 64) × (whole ≡ decimal secs) × IsFraction nanos ds
cut_time secs nanos text whole ds c t = by t.rest t.follows t.printed
  where
    by : (part : List ℕ) → IsRest nanos part → text ≡ decimal secs ++ part → (secs < 2 ^ 64) × (whole ≡ decimal secs) × IsFraction nanos ds
    by part (inl f) e =
        absurd (cut_none 46 (decimal secs) whole ds (decimal_lacks 46 secs refl t.small)
        (sym (e ∙ (ap (λ (z : List ℕ). decimal secs ++ z) f.0 ∙ append-nil (decimal secs))) ∙ c.parts))
    by part (inr f) e =
        let same = cut_once 46 text whole ds c (decimal secs) f.0 (e ∙ ap (λ (z : List ℕ). decimal secs ++ z) f.2) (decimal_lacks 46 secs refl t.small) in
        (t.small, same.0, subst (IsFraction nanos) (sym same.1) f.1)

-- a text is of one time at most
pub time_once : (s n r m : ℕ) (text : List ℕ) → IsTimeText s n text → IsTimeText r m text → (s ≡ r) × (n ≡ m)
time_once s n r m text t v = by t.rest t.follows t.printed
  where
    by : (part : List ℕ) → IsRest n part → text ≡ decimal s ++ part → (s ≡ r) × (n ≡ m)
    by part (inl f) e =
        let plain : text ≡ decimal s = e ∙ (ap (λ (z : List ℕ). decimal s ++ z) f.0 ∙ append-nil (decimal s)) in
        let other = whole_time r m text (subst (Lacks 46) (sym plain) (decimal_lacks 46 s refl t.small)) v in
        (decimal_injective s r t.small v.small (sym plain ∙ other.1), f.1 ∙ sym other.2)
    by part (inr f) e =
        let c : IsCut 46 text (decimal s) f.0 = record { parts = e ∙ ap (λ (z : List ℕ). decimal s ++ z) f.2; first = decimal_lacks 46 s refl t.small } in
        let other = cut_time r m text (decimal s) f.0 c v in
        (decimal_injective s r t.small v.small other.1, f.1.value ∙ sym other.2.value)
