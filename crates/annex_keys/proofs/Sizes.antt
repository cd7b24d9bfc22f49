-- Sizes in front of a text, and where a text stops having one.
use Rattle.std.proofs.Common.{◌≡◌, ℕ, zero, suc, ◌+◌, ◌-◌, ◌*◌, ◌/◌, ◌%◌, ◌<◌, ◌≤◌, ◌^◌, Bool, true, false, ◌&&◌, ◌⊎◌, inl, inr, List, [], ◌∷◌, ◌++◌, length, take, drop, get_or, refl, sym, subst, ◌∙◌, ap, arith, append_assoc, length-append, codes}
use Rattle.std.specs.Prelude.{decimal, replicate}
use Rattle.std.specs.Char.{digit_value, is_ascii_digit}
use Rattle.std.specs.List.{list_all}
use Rattle.std.specs.Str.Parse.{AllDigits, digits_value}
use Rattle.std.proofs.lemmas.Bool.{and_parts, cases_lt, false≢true}
use Rattle.std.proofs.lemmas.Bool.Decides.{nat_tests}
use Rattle.std.proofs.lemmas.Fmt.{decimal_is_IsNumeral, decimal_digit, decimal_step, first_decimal}
use Rattle.std.proofs.lemmas.Int.Digits.{digits_value_push}
use Rattle.std.proofs.lemmas.List.{take-append-drop, take_more, take_at, get_or_append_left, get_or-take, length-take-le, take_rest}
use Rattle.std.proofs.lemmas.List.Folds.{list_all-append}
use Rattle.std.proofs.lemmas.Str.Parse.{IsNumeralModel, numerals_by_value, tells_digits, digits_value-take-le}
use Rattle.annex_keys.specs.Extensions.{IsExt}
use Rattle.annex_keys.specs.Pieces.{Behind, IsDashed, IsDigestText, IsSizeText, NoFirst}
use Rattle.annex_keys.specs.Steps.{IsSizeFront, StopsWith}
use Rattle.annex_keys.specs.Stops.{Begins, StopsAt}
use Rattle.annex_keys.proofs.Digests.{some_digest_text}
use Rattle.annex_keys.proofs.Groups.{cut_once}
use Rattle.annex_keys.proofs.Past.{Leads, stops_past, no_first_taken}
use Rattle.annex_keys.proofs.Prefixes.{no_first_at}

all_digits : (ds : List ℕ) → AllDigits 10 ds → list_all is_ascii_digit ds ≡ true
all_digits [] h = refl
all_digits (c ∷ cs) h = λ i. digit c h.0 i && all_digits cs h.1 i
  where
    digit : (c : ℕ) → digit_value c < 10 → is_ascii_digit c ≡ true
    digit c h = grind (arith, nat_tests)

pub decimal_digits : (n : ℕ) → n < 2 ^ 64 → list_all is_ascii_digit (decimal n) ≡ true
decimal_digits n h = all_digits (decimal n) (decimal_is_IsNumeral n h).0.1

pub decimal_some : (n : ℕ) → n < 2 ^ 64 → 0 < length (decimal n)
decimal_some n h = (decimal_is_IsNumeral n h).0.0

-- ---- what follows a size

dash_first : (x : List ℕ) → IsDashed x → (rest : List ℕ) × (x ≡ 45 ∷ rest)
dash_first x h = (45 ∷ h.rest, h.printed)

no_digit_dash : (x : List ℕ) → IsDashed x → NoFirst is_ascii_digit x
no_digit_dash x h = subst (NoFirst is_ascii_digit) (sym h.printed) refl

some_dashed : IsDashed (45 ∷ 45 ∷ some_digest_text.0)
some_dashed = record { rest = some_digest_text.0; follows = some_digest_text.1; printed = refl }

sized : (n : ℕ) → n < 2 ^ 64 → Begins IsSizeText (decimal n)
sized n h = record {
  rest = 45 ∷ 45 ∷ some_digest_text.0;
  whole = record { size = n; rest = 45 ∷ 45 ∷ some_digest_text.0; small = h; follows = some_dashed; printed = refl };
}

leads_size : (n : ℕ) → n < 2 ^ 64 → Leads IsDashed IsSizeText (NoFirst is_ascii_digit) (decimal n)
leads_size n h = record {
  to = λ x d. record { size = n; rest = x; small = h; follows = d; printed = λ i. decimal n ++ x };
  back = λ x none s.
      subst IsDashed (sym (cut_once is_ascii_digit (decimal n) (decimal s.size) x s.rest (decimal_digits n h) (decimal_digits s.size s.small) none (no_digit_dash s.rest s.follows) s.printed).1) s.follows;
}

-- a text behind a size stops where the rest stops
pub size_stops : (text rest : List ℕ) (n left : ℕ) → IsSizeFront text n rest → StopsWith IsDashed rest left → StopsWith IsSizeText text left
size_stops text rest n left f s =
    subst (λ z. StopsWith IsSizeText z left) (sym f.printed)
    (stops_past IsDashed IsSizeText (NoFirst is_ascii_digit) (decimal n) rest (leads_size n f.small) f.ends (no_first_taken is_ascii_digit rest f.ends) left s)

-- ---- digits that no size begins with

-- digits that begin a size's text begin the size
digits_inside : (ds more y r : List ℕ) → list_all is_ascii_digit more ≡ true → ds ++ 45 ∷ y ≡ more ++ r → (r' : List ℕ) × (ds ≡ more ++ r')
digits_inside ds [] y r all e = (ds, refl)
digits_inside [] (b ∷ bs) y r all e =
    let head : 45 ≡ b = cc e in
    absurd (false≢true (ap is_ascii_digit head ∙ (and_parts (is_ascii_digit b) (list_all is_ascii_digit bs) all).0))
digits_inside (a ∷ as') (b ∷ bs) y r all e =
    let head : a ≡ b = cc e in
    let tail : as' ++ 45 ∷ y ≡ bs ++ r = cc e in
    let more = digits_inside as' bs y r (and_parts (is_ascii_digit b) (list_all is_ascii_digit bs) all).1 tail in
    (more.0, cc (head, more.1))

size_inside : (more : List ℕ) → list_all is_ascii_digit more ≡ true → (s : Begins IsSizeText more)
    → (n : ℕ) × (n < 2 ^ 64) × ((r : List ℕ) × (decimal n ≡ more ++ r))
size_inside more all s =
    let w = s.whole in
    let dash = dash_first w.rest w.follows in
    (w.size, w.small, digits_inside (decimal w.size) more dash.0 s.rest all (ap (λ z. decimal w.size ++ z) (sym dash.1) ∙ sym w.printed))

-- the digits so far are those of a size
pub record SizeSoFar (text : List ℕ) (at size : ℕ) : Type 0 where
  pub within : at ≤ length text
  pub small : size < 2 ^ 64
  pub none : at ≡ 0 → size ≡ 0
  pub printed : 0 < at → decimal size ≡ take at text

pub nothing_begins : Begins IsSizeText []
nothing_begins = record {
  rest = decimal 0 ++ 45 ∷ 45 ∷ some_digest_text.0;
  whole = record { size = 0; rest = 45 ∷ 45 ∷ some_digest_text.0; small = omega arith; follows = some_dashed; printed = refl };
}

begun : (text : List ℕ) (at size : ℕ) → SizeSoFar text at size → Begins IsSizeText (take at text)
begun text at size s = elim (cases_lt 0 at) [
  | inl lt ↦ subst (Begins IsSizeText) (s.printed lt) (sized size s.small)
  | inr ge ↦
      let start : at ≡ 0 = omega arith in
      subst (λ n. Begins IsSizeText (take n text)) (sym start) nothing_begins
]

so_far_digits : (text : List ℕ) (at size : ℕ) → SizeSoFar text at size → list_all is_ascii_digit (take at text) ≡ true
so_far_digits text at size s = elim (cases_lt 0 at) [
  | inl lt ↦ subst (λ z. list_all is_ascii_digit z ≡ true) (s.printed lt) (decimal_digits size s.small)
  | inr ge ↦
      let start : at ≡ 0 = omega arith in
      subst (λ n. list_all is_ascii_digit (take n text) ≡ true) (sym start) refl
]

one_more : (text : List ℕ) (at size : ℕ) → SizeSoFar text at size → at < length text → is_ascii_digit (get_or text at 0) ≡ true
    → list_all is_ascii_digit (take (at + 1) text) ≡ true
one_more text at size s lt digit =
    subst (λ z. list_all is_ascii_digit z ≡ true) (sym (take_more text at 0 lt))
    (list_all-append is_ascii_digit (take at text) (get_or text at 0 ∷ []) ∙ (λ i. so_far_digits text at size s i && (digit i && true)))

-- ---- the loop

size_some : (text : List ℕ) (at size : ℕ) → SizeSoFar text at size → 0 < at → (at ≡ 1 → size ≡ 0 → ⊥) → 0 < size
size_some text at size s lt leading = elim (cases_lt 0 size) [
  | inl some ↦ some
  | inr nothing ↦
      let is : size ≡ 0 = omega arith in
      let one : length (decimal size) ≡ 1 = ap (λ n. length (decimal n)) is ∙ ap length (decimal_digit 0 (omega arith)) in
      let within = s.within in
      let long = length-take-le at text within in
      let same = ap length (s.printed lt) in
      absurd (leading (omega arith) is)
]

digit_range : (c : ℕ) → is_ascii_digit c ≡ true → (48 ≤ c) × (c ≤ 57)
digit_range c h = (grind (arith, nat_tests), grind (arith, nat_tests))

printed_more : (text : List ℕ) (at size more : ℕ) → SizeSoFar text at size → at < length text → is_ascii_digit (get_or text at 0) ≡ true
    → more < 2 ^ 64 → more ≡ size * 10 + (get_or text at 0 - 48) → (at ≡ 1 → size ≡ 0 → ⊥) → (0 < at) ⊎ (at ≤ 0)
    → decimal more ≡ take at text ++ get_or text at 0 ∷ []
printed_more text at size more s lt digit small is leading (inl some) =
    let range = digit_range (get_or text at 0) digit in
    let low = range.0 in
    let high = range.1 in
    let above = size_some text at size s some leading in
    let ten : 10 ≤ more = omega arith in
    let front : more / 10 ≡ size = omega arith in
    let last : 48 + more % 10 ≡ get_or text at 0 = omega arith in
    decimal_step more ten small ∙ (λ i. (ap decimal front ∙ s.printed some) i ++ (last i ∷ []))
printed_more text at size more s lt digit small is leading (inr none) =
    let range = digit_range (get_or text at 0) digit in
    let low = range.0 in
    let high = range.1 in
    let start : at ≡ 0 = omega arith in
    let nothing = s.none start in
    let one : 48 + more ≡ get_or text at 0 = omega arith in
    decimal_digit more (omega arith) ∙ (λ i. one i ∷ []) ∙ ap (λ n. take n text ++ get_or text at 0 ∷ []) (sym start)

pub size_more : (text : List ℕ) (at size more : ℕ) → SizeSoFar text at size → at < length text → is_ascii_digit (get_or text at 0) ≡ true
    → more < 2 ^ 64 → more ≡ size * 10 + (get_or text at 0 - 48) → (at ≡ 1 → size ≡ 0 → ⊥) → SizeSoFar text (at + 1) more
size_more text at size more s lt digit small is leading = record {
  within = omega arith;
  small = small;
  none = λ e. absurd (omega arith);
  printed = λ _. printed_more text at size more s lt digit small is leading (cases_lt 0 at) ∙ sym (take_more text at 0 lt);
}

pub size_begins : (text : List ℕ) → SizeSoFar text 0 0
size_begins text = record { within = omega arith; small = omega arith; none = λ _. refl; printed = λ h. absurd (omega arith) }

-- ---- where it stops

-- a text stops at a digit with which no size goes on
stop_at : (text : List ℕ) (at size : ℕ) → SizeSoFar text at size → at < length text → is_ascii_digit (get_or text at 0) ≡ true
    → ((n : ℕ) → n < 2 ^ 64 → (r : List ℕ) → decimal n ≡ take (at + 1) text ++ r → ⊥) → StopsWith IsSizeText text (length text - at)
stop_at text at size s lt digit off = record {
  at = at;
  place = omega arith;
  stops = record {
    within = omega arith;
    begins = begun text at size s;
    stops = λ _ b. none b;
    none = λ w. none (record { rest = drop (at + 1) text; whole = subst IsSizeText (sym (take-append-drop (at + 1) text)) w });
  };
}
  where
    none : Begins IsSizeText (take (at + 1) text) → ⊥
    none b =
        let i = size_inside (take (at + 1) text) (one_more text at size s lt digit) b in
        off i.0 i.1 i.2.0 i.2.1

-- a leading in front of another digit
pub zero_stops : (text : List ℕ) (at size : ℕ) → SizeSoFar text at size → at < length text → is_ascii_digit (get_or text at 0) ≡ true
    → at ≡ 1 → size ≡ 0 → StopsWith IsSizeText text (length text - at)
zero_stops text at size s lt digit one leading = stop_at text at size s lt digit (λ n small r e.
    let first : take 1 text ≡ 48 ∷ [] = ap (λ k. take k text) (sym one) ∙ sym (s.printed (omega arith)) ∙ ap decimal leading ∙ decimal_digit 0 (omega arith) in
    let long = length-take-le (at + 1) text (omega arith) in
    let whole = ap length e ∙ length-append (take (at + 1) text) r in
    let head : get_or (decimal n) 0 0 ≡ 48 =
    ap (λ z. get_or z 0 0) e ∙ get_or_append_left (take (at + 1) text) r 0 0 (omega arith) ∙ get_or-take (at + 1) text 0 0 (omega arith)
    ∙ sym (get_or-take 1 text 0 0 (omega arith)) ∙ ap (λ z. get_or z 0 0) first in
    elim (cases_lt 0 n) [
      | inl some ↦
          let above = first_decimal n some small in
          absurd (omega arith)
      | inr none ↦
          let is : n ≡ 0 = omega arith in
          let short : length (decimal n) ≡ 1 = ap (λ k. length (decimal k)) is ∙ ap length (decimal_digit 0 (omega arith)) in
          absurd (omega arith)
    ])

own : IsNumeralModel (AllDigits 10) (digits_value 10)
own = numerals_by_value (AllDigits 10) tells_digits

value_so_far : (text : List ℕ) (at size : ℕ) → SizeSoFar text at size → (0 < at) ⊎ (at ≤ 0) → digits_value 10 (take at text) ≡ size
value_so_far text at size s (inl some) = ap (digits_value 10) (sym (s.printed some)) ∙ (decimal_is_IsNumeral size s.small).1
value_so_far text at size s (inr none) =
    let start : at ≡ 0 = omega arith in
    ap (λ n. digits_value 10 (take n text)) start ∙ sym (s.none start)

digit_is : (c : ℕ) → is_ascii_digit c ≡ true → digit_value c ≡ c - 48
digit_is c h = grind (arith, nat_tests)

-- a digit that makes the size too large
pub large_stops : (text : List ℕ) (at size : ℕ) → SizeSoFar text at size → at < length text → is_ascii_digit (get_or text at 0) ≡ true
    → 2 ^ 64 ≤ size * 10 + (get_or text at 0 - 48) → StopsWith IsSizeText text (length text - at)
large_stops text at size s lt digit large = stop_at text at size s lt digit (λ n small r e.
    let long = length-take-le (at + 1) text (omega arith) in
    let front : take (at + 1) (decimal n) ≡ take (at + 1) text = ap (take (at + 1)) e ∙ take_at (take (at + 1) text) r (at + 1) long in
    let value : digits_value 10 (take (at + 1) text) ≡ size * 10 + digit_value (get_or text at 0) =
    ap (digits_value 10) (take_more text at 0 lt) ∙ digits_value_push 10 (take at text) (get_or text at 0)
    ∙ ap (λ v. v * 10 + digit_value (get_or text at 0)) (value_so_far text at size s (cases_lt 0 at)) in
    let most : digits_value 10 (take (at + 1) (decimal n)) ≤ digits_value 10 (decimal n) = digits_value-take-le 10 (decimal n) (at + 1) (omega arith) in
    let same : digits_value 10 (take (at + 1) (decimal n)) ≡ digits_value 10 (take (at + 1) text) = ap (digits_value 10) front in
    let is : digits_value 10 (decimal n) ≡ n = (decimal_is_IsNumeral n small).1 in
    let last = digit_is (get_or text at 0) digit in
    omega arith)

digit_head : (ds y x : List ℕ) → 0 < length ds → list_all is_ascii_digit ds ≡ true → x ≡ ds ++ y → NoFirst is_ascii_digit x → ⊥
digit_head [] y x some all e off = absurd (omega arith)
digit_head (c ∷ cs) y x some all e off =
    let none : is_ascii_digit c ≡ false = subst (NoFirst is_ascii_digit) e off in
    false≢true (sym none ∙ (and_parts (is_ascii_digit c) (list_all is_ascii_digit cs) all).0)

no_size : (x : List ℕ) → NoFirst is_ascii_digit x → IsSizeText x → ⊥
no_size x off w = digit_head (decimal w.size) w.rest x (decimal_some w.size w.small) (decimal_digits w.size w.small) w.printed off

-- no digit in front
pub no_digit_stops : (text : List ℕ) → NoFirst is_ascii_digit text → StopsWith IsSizeText text (length text)
no_digit_stops text off = record {
  at = 0;
  place = omega arith;
  stops = record {
    within = omega arith;
    begins = nothing_begins;
    stops = λ lt b. no_size (take 1 text ++ b.rest) (no_first_taken is_ascii_digit text off 0 lt b.rest) b.whole;
    none = no_size text off;
  };
}

pub no_digit_here : (text : List ℕ) (at : ℕ) → at ≡ 0 → is_ascii_digit (get_or text at 0) ≡ false → NoFirst is_ascii_digit text
no_digit_here [] at start h = tt
no_digit_here (b ∷ bs) at start h = ap (λ n. is_ascii_digit (get_or (b ∷ bs) n 0)) (sym start) ∙ h

pub no_bytes : (text : List ℕ) (at : ℕ) → at ≡ 0 → length text ≤ at → NoFirst is_ascii_digit text
no_bytes [] at start h = tt
no_bytes (b ∷ bs) at start h = absurd (omega arith)

-- the size that the loop has read, and what follows it
pub size_front : (text : List ℕ) (at size : ℕ) → SizeSoFar text at size → (at ≡ 0 → ⊥) → (at < length text → is_ascii_digit (get_or text at 0) ≡ false)
    → IsSizeFront text size (take (length text - at) (drop at text))
size_front text at size s some stops =
    let within = s.within in
    let above : 0 < at = omega arith in
    record {
      small = s.small;
      printed = sym (take-append-drop at text) ∙ (λ i. sym (s.printed above) i ++ sym (take_rest text at) i);
      ends = subst (NoFirst is_ascii_digit) (sym (take_rest text at)) (no_first_at is_ascii_digit text at stops);
    }
