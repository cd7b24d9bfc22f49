-- What texts of numbers and places are, and sections that are kept.
use Rattle.std.proofs.Common.{◌≡◌, ℕ, ◌^◌, ◌<◌, ◌≤◌, Bool, true, false, cond, ◌&&◌, List, [], ◌∷◌, map, length, Some, None, Result, Ok, Err, inl, inr, refl, sym, ap, ◌∙◌, arith, rules}
use Rattle.std.specs.Prelude.{MatchResult}
use Rattle.std.specs.Char.{is_ascii_digit}
use Rattle.std.specs.List.{filter, list_all}
use Rattle.std.specs.Str.Parse.{ParsesUnsigned, digits_value}
use Rattle.std.proofs.lemmas.Bool.{and_parts, cases_Bool, cond-true, cond-false, false_from_ne_true, eqb-false, not-true}
use Rattle.std.proofs.lemmas.Bool.Decides.{nat_tests}
use Rattle.std.proofs.lemmas.Str.Parse.{IsNumeralModel, numerals_by_value, parse_digits}
use Rattle.places.specs.All.{IsPlace, IsText, is_text, names_of, text_of}
use Rattle.places.proofs.Grammar.{is_text-sound, is_text-complete}
use Rattle.places.proofs.Texts.{names_of-text_of}
use Rattle.config_text.specs.declared.sections.Section.{Section}
use Rattle.config_text.specs.Sections.{PlainSection, plain}
use Rattle.config_text.specs.Settings.{is_number, is_count, copies_of, place_of}

-- ---- numbers
abbrev pub AreDigits : List ℕ → Type 0
AreDigits ds = list_all is_ascii_digit ds ≡ true

pub numerals : IsNumeralModel AreDigits (digits_value 10)
numerals = numerals_by_value AreDigits (search rules)

pub digits_in : (text : List ℕ) → is_number text ≡ true → AreDigits text × (0 < length text)
unfolding is_number
digits_in text h =
    let parts = and_parts _ _ h in
    let digits = and_parts _ _ parts.1 in
    let some : length text ≡ 0 → ⊥ = eqb-false (length text) 0 (not-true _ parts.0) in
    (digits.0, omega arith)

pub copies_are : (text : List ℕ) → is_number text ≡ true → copies_of text ≡ cond (is_count (digits_value 10 text)) (Some (digits_value 10 text)) None
unfolding copies_of
copies_are text h = ap (λ b. cond (b && is_count (digits_value 10 text)) (Some (digits_value 10 text)) None) h

too_many : (n : ℕ) → 2 ^ 64 ≤ n → is_count n ≡ false
too_many n h = grind (arith, nat_tests)

-- what `parse` says of the number
pub copies_parsed : {E : Type 0} (text : List ℕ) (r : Result ℕ E) → is_number text ≡ true → ParsesUnsigned 64 10 text r
    → MatchResult r (λ n. copies_of text ≡ cond (is_count n) (Some n) None) (λ e. copies_of text ≡ None)
copies_parsed {E} text (Ok n) h p =
    let parsed = parse_digits numerals {E = E} 64 text (Ok n) p (digits_in text h).0 in
    copies_are text h ∙ ap (λ (m : ℕ). cond (is_count m) (Some m) None) (sym parsed.1)
copies_parsed {E} text (Err e) h p =
    let digits = digits_in text h in
    let big : digits_value 10 text < 2 ^ 64 → ⊥ = λ small. parse_digits numerals {E = E} 64 text (Err e) p digits.0 (digits.1, small) in
    copies_are text h ∙ cond-false (is_count (digits_value 10 text)) (Some (digits_value 10 text)) None (too_many (digits_value 10 text) (omega (arith, big)))

pub no_number : (text : List ℕ) → is_number text ≡ false → copies_of text ≡ None
unfolding copies_of
no_number text h = ap (λ b. cond (b && is_count (digits_value 10 text)) (Some (digits_value 10 text)) None) h

-- ---- places
pub place_read : (text : List ℕ) (p : List (List ℕ)) → IsPlace p → text ≡ text_of p → Some p ≡ place_of text
unfolding place_of
place_read text p place e =
    let test = ap is_text e ∙ is_text-complete p place in
    ap Some (sym (ap names_of e ∙ names_of-text_of p place.names)) ∙ sym (cond-true (is_text text) (Some (names_of text)) None test)

pub no_place : (text : List ℕ) → (IsText text → ⊥) → None ≡ place_of text
unfolding place_of
no_place text h =
    let test = false_from_ne_true (is_text text) (λ t. let stored = is_text-sound text t in h (names_of text, stored.place, sym stored.same)) in
    sym (cond-false (is_text text) (Some (names_of text)) None test)

-- ---- sections that are kept
pub map-filter_plain : (p : PlainSection → Bool) (list : List Section) → map plain (filter (λ s. p (plain s)) list) ≡ filter p (map plain list)
map-filter_plain p [] = refl
map-filter_plain p (s ∷ list) = elim (cases_Bool (p (plain s))) [
  | inl holds ↦
      ap (map plain) (cond-true (p (plain s)) (s ∷ filter (λ z. p (plain z)) list) (filter (λ z. p (plain z)) list) holds)
      ∙ ap (λ (z : List PlainSection). plain s ∷ z) (map-filter_plain p list)
      ∙ sym (cond-true (p (plain s)) (plain s ∷ filter p (map plain list)) (filter p (map plain list)) holds)
  | inr fails ↦
      ap (map plain) (cond-false (p (plain s)) (s ∷ filter (λ z. p (plain z)) list) (filter (λ z. p (plain z)) list) fails)
      ∙ map-filter_plain p list
      ∙ sym (cond-false (p (plain s)) (plain s ∷ filter p (map plain list)) (filter p (map plain list)) fails)
]
