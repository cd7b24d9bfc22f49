-- What texts of numbers are, and which operand is next.
use Rattle.std.proofs.Common.{◌≡◌, ℕ, zero, suc, ◌+◌, ◌-◌, ◌^◌, ◌<◌, ◌≤◌, Bool, true, false, ◌&&◌, List, [], ◌∷◌, length, get_or, Option, Some, None, Result, Ok, Err, refl, sym, ap, ◌∙◌, arith, rules}
use Rattle.std.specs.Prelude.{MatchResult, nat_le}
use Rattle.std.specs.Char.{is_ascii_digit}
use Rattle.std.specs.List.{list_all}
use Rattle.std.specs.Str.Parse.{ParsesUnsigned, digits_value}
use Rattle.std.proofs.lemmas.Bool.{and_parts, eqb-false, not-true}
use Rattle.std.proofs.lemmas.Bool.Decides.{nat_tests}
use Rattle.std.proofs.lemmas.Str.Parse.{IsNumeralModel, numerals_by_value, parse_digits}
use Rattle.dl_words.specs.declared.table.OperandForm.{OperandForm}
use Rattle.dl_words.specs.Operands.{is_number, is_copies, has_form, is_within, may_be_next}

abbrev pub AreDigits : List ℕ → Type 0
AreDigits ds = list_all is_ascii_digit ds ≡ true

pub numerals : IsNumeralModel AreDigits (digits_value 10)
numerals = numerals_by_value AreDigits (search rules)

pub digits_in : (text : List ℕ) → is_number text ≡ true → AreDigits text × (0 < length text)
unfolding is_number
digits_in text h =
    let parts = and_parts _ _ h in
    let digits = and_parts _ _ parts.1 in
    let some : length text ≡ 0 → ⊥ = eqb-false (length text) 0 (not-true _ parts.0) in
    (digits.0, omega arith)

copies_are : (text : List ℕ) → is_number text ≡ true → is_copies text ≡ nat_le (digits_value 10 text) 1000
unfolding is_copies
copies_are text h = ap (λ b. b && nat_le (digits_value 10 text) 1000) h

too_many : (n : ℕ) → 2 ^ 64 ≤ n → nat_le n 1000 ≡ false
too_many n h = grind (arith, nat_tests)

-- what `parse` says of the number
pub copies_parsed : {E : Type 0} (text : List ℕ) (r : Result ℕ E) → is_number text ≡ true → ParsesUnsigned 64 10 text r
    → MatchResult r (λ n. is_copies text ≡ nat_le n 1000) (λ e. is_copies text ≡ false)
copies_parsed {E} text (Ok n) h p =
    let parsed = parse_digits numerals {E = E} 64 text (Ok n) p (digits_in text h).0 in
    copies_are text h ∙ ap (λ (m : ℕ). nat_le m 1000) (sym parsed.1)
copies_parsed {E} text (Err e) h p =
    let digits = digits_in text h in
    let big : digits_value 10 text < 2 ^ 64 → ⊥ = λ small. parse_digits numerals {E = E} 64 text (Err e) p digits.0 (digits.1, small) in
    copies_are text h ∙ too_many (digits_value 10 text) (omega (arith, big))

-- an operand that has to come
pub next_in : (forms : List OperandForm) (more : Option ℕ) (count : ℕ) (word : List ℕ) (d : OperandForm) → count < length forms
    → may_be_next forms more count word ≡ has_form (get_or forms count d) word
next_in [] more count word d h = absurd (omega arith)
next_in (form ∷ forms) more zero word d h = refl
next_in (form ∷ forms) more (suc count) word d h = next_in forms more count word d (omega arith)

-- one beyond those
pub next_beyond : (forms : List OperandForm) (more : Option ℕ) (count n : ℕ) (word : List ℕ) → count + 1 ≡ length forms + n
    → length forms ≤ count → may_be_next forms more count word ≡ is_within more n
next_beyond [] more count n word e h = ap (is_within more) (omega arith)
next_beyond (form ∷ forms) more zero n word e h = absurd (omega arith)
next_beyond (form ∷ forms) more (suc count) n word e h = next_beyond forms more count n word (omega arith) (omega arith)
