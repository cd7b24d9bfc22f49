-- A revision word has one reading, and that is the one that is read byte by byte.
use Rattle.std.proofs.Common.{◌≡◌, ◌⊎◌, ⊎_elim, ◌≤◌, ◌<◌, ◌+◌, ◌-◌, ◌*◌, ◌/◌, ◌%◌, ◌==◌, ℕ, zero, suc, Bool, true, false, cond, not, ◌||◌, List, [], ◌∷◌, ◌++◌, length, take, drop, map, Option, Some, None, refl, sym, ap, ◌∙◌, arith, append_assoc, append-nil}
use Rattle.std.specs.Prelude.{codes, nat_lt, option_map, option_and_then, position, unwrap_or}
use Rattle.std.specs.Char.{is_ascii_digit}
use Rattle.std.specs.Int.Digits.{digits_of}
use Rattle.std.specs.List.{list_any, flat_map, position_or_len}
use Rattle.std.proofs.lemmas.Bool.{eqb-true}
use Rattle.std.proofs.lemmas.Bool.Decides.{nat_tests}
use Rattle.std.proofs.lemmas.List.{map-append, take-append-drop}
use Rattle.std.proofs.lemmas.List.Sums.{prefix_len-le-length}
use Rattle.std.proofs.lemmas.Int.Digits.{digits_of_step}
use Rattle.ref_store.specs.Revisions.{Back, Caret, Tilde, Tildes, IsRevision, all_counts, back_text, is_back_byte, number_digits}
use Rattle.ref_store.specs.RevisionWords.{IsRead, at_base, count_in, gone, limited, more, next, number_more, then_last, total, with_last}
use Rattle.ref_store.specs.declared.revision_words.Going.{Going}
use Rattle.ref_store.specs.declared.revision_words.Last.{Last}
use Rattle.ref_store.specs.declared.revision_words.Last.TheVariants.{Number, Caret as CaretLast, Tilde as TildeLast}

-- ---- the digits of a number, from the front
glyphs : List ℕ → List ℕ
glyphs ds = map (λ d. 48 + d) ds

digits_zero : number_digits 0 ≡ 48 ∷ []
unfolding number_digits
digits_zero = refl

digits_some : (n : ℕ) → 0 < n → number_digits n ≡ glyphs (digits_of 10 n)
unfolding number_digits glyphs
digits_some n some =
    let is : (n == 0) ≡ false = grind (arith, nat_tests) in
    ap (λ b. cond b (codes "0") (map (λ d. 48 + d) (digits_of 10 n))) is

digits_none : digits_of 10 0 ≡ []
digits_none = refl

digits_last : (n : ℕ) → 0 < n → number_digits n ≡ glyphs (digits_of 10 (n / 10)) ++ (48 + n % 10) ∷ []
unfolding glyphs
digits_last n some = digits_some n some ∙ ap glyphs (digits_of_step 10 n (omega arith) some) ∙ map-append (λ d. 48 + d) (digits_of 10 (n / 10)) (n % 10 ∷ [])

short_tens : (d : ℕ) → d < 10 → (d / 10 ≡ 0) × (d % 10 ≡ d)
short_tens d small = (omega arith, omega arith)

long_tens : (n d : ℕ) → d < 10 → ((n * 10 + d) / 10 ≡ n) × ((n * 10 + d) % 10 ≡ d)
long_tens n d small = (omega arith, omega arith)

pub digits_short : (d : ℕ) → d < 10 → number_digits d ≡ (48 + d) ∷ []
unfolding glyphs
digits_short zero small = digits_zero
digits_short (suc d) small =
    let t = short_tens (suc d) small in
    digits_last (suc d) (omega arith) ∙ (λ i. glyphs (digits_of 10 (t.0 i)) ++ (48 + t.1 i) ∷ [])

pub digits_long : (n d : ℕ) → 0 < n → d < 10 → number_digits (n * 10 + d) ≡ number_digits n ++ (48 + d) ∷ []
digits_long n d some small =
    let t = long_tens n d small in
    digits_last (n * 10 + d) (omega arith) ∙ (λ i. glyphs (digits_of 10 (t.0 i)) ++ (48 + t.1 i) ∷ []) ∙ ap (λ (z : List ℕ). z ++ (48 + d) ∷ []) (sym (digits_some n some))

-- ---- what was read, as the list of all that goes back, the last in front
with_digit_by : Bool → List Back → Option (List Back)
with_digit_by true st = None
with_digit_by false st = Some st

with_digit : List Back → ℕ → Option (List Back)
with_digit [] d = None
with_digit (Caret ∷ st) d = None
with_digit (Tilde ∷ st) d = Some (Tildes d ∷ st)
with_digit (Tildes n ∷ st) d = with_digit_by (n == 0) (Tildes (n * 10 + d) ∷ st)

read_more : List Back → ℕ → Option (List Back)
read_more st b = cond (b == 94) (Some (Caret ∷ st)) (cond (b == 126) (Some (Tilde ∷ st)) (cond (is_ascii_digit b) (with_digit st (b - 48)) None))

read : List Back → List ℕ → Option (List Back)
read st [] = Some st
read st (b ∷ text) = option_and_then (λ now. read now text) (read_more st b)

-- the text of what was read
texts : List Back → List ℕ
texts [] = []
texts (b ∷ st) = texts st ++ back_text b

digit_range : (b : ℕ) → is_ascii_digit b ≡ true → (48 ≤ b) × (b - 48 < 10) × (48 + (b - 48) ≡ b)
digit_range b is =
    let low : 48 ≤ b = grind (arith, nat_tests) in
    let high : b ≤ 57 = grind (arith, nat_tests) in
    (low, omega arith, omega arith)

digit_text : (st : List Back) (d : ℕ) (now : List Back) → d < 10 → with_digit st d ≡ Some now → texts now ≡ texts st ++ (48 + d) ∷ []
unfolding with_digit with_digit_by texts
digit_text [] d now small e = absurd (cc e)
digit_text (Caret ∷ st) d now small e = absurd (cc e)
digit_text (Tilde ∷ st) d now small e =
    let is : Tildes d ∷ st ≡ now = cc e in
    ap texts (sym is) ∙ ap (λ (z : List ℕ). texts st ++ 126 ∷ z) (digits_short d small) ∙ sym (append_assoc (texts st) (126 ∷ []) ((48 + d) ∷ []))
digit_text (Tildes n ∷ st) d now small e = by (n == 0) refl e
  where
    by : (b : Bool) → (n == 0) ≡ b → with_digit_by b (Tildes (n * 10 + d) ∷ st) ≡ Some now → texts now ≡ texts (Tildes n ∷ st) ++ (48 + d) ∷ []
    by true zero_is k = absurd (cc k)
    by false some k =
        let is : Tildes (n * 10 + d) ∷ st ≡ now = cc k in
        let positive : 0 < n = grind (arith, nat_tests) in
        ap texts (sym is) ∙ ap (λ (z : List ℕ). texts st ++ 126 ∷ z) (digits_long n d positive small) ∙ sym (append_assoc (texts st) (126 ∷ number_digits n) ((48 + d) ∷ []))

more_text : (st : List Back) (b : ℕ) (now : List Back) → read_more st b ≡ Some now → texts now ≡ texts st ++ b ∷ []
unfolding read_more texts
more_text st b now e = by (b == 94) (b == 126) (is_ascii_digit b) refl refl refl e
  where
    by : (caret tilde digit : Bool) → (b == 94) ≡ caret → (b == 126) ≡ tilde → is_ascii_digit b ≡ digit
        → cond caret (Some (Caret ∷ st)) (cond tilde (Some (Tilde ∷ st)) (cond digit (with_digit st (b - 48)) None)) ≡ Some now → texts now ≡ texts st ++ b ∷ []
    by true tilde digit is is_tilde is_digit k =
        let same : Caret ∷ st ≡ now = cc k in
        let byte : 94 ≡ b = sym (eqb-true b 94 is) in
        ap texts (sym same) ∙ ap (λ (z : ℕ). texts st ++ z ∷ []) byte
    by false true digit is is_tilde is_digit k =
        let same : Tilde ∷ st ≡ now = cc k in
        let byte : 126 ≡ b = sym (eqb-true b 126 is_tilde) in
        ap texts (sym same) ∙ ap (λ (z : ℕ). texts st ++ z ∷ []) byte
    by false false true is is_tilde is_digit k =
        let range = digit_range b is_digit in
        digit_text st (b - 48) now range.1 k ∙ ap (λ (z : ℕ). texts st ++ z ∷ []) range.2
    by false false false is is_tilde is_digit k = absurd (cc k)

read_text : (st : List Back) (text : List ℕ) (now : List Back) → read st text ≡ Some now → texts now ≡ texts st ++ text
unfolding read
read_text st [] now e =
    let same : st ≡ now = cc e in
    ap texts (sym same) ∙ sym (append-nil (texts st))
read_text st (b ∷ text) now e = by (λ mid k. read_text mid text now k) (read_more st b) refl e
  where
    by : ((mid : List Back) → read mid text ≡ Some now → texts now ≡ texts mid ++ text) → (o : Option (List Back)) → read_more st b ≡ o → option_and_then (λ mid. read mid text) o ≡ Some now → texts now ≡ texts st ++ b ∷ text
    by rest None is k = absurd (cc k)
    by rest (Some mid) is k = rest mid k ∙ ap (λ (z : List ℕ). z ++ text) (more_text st b mid is) ∙ append_assoc (texts st) (b ∷ []) text

-- ---- all that goes back is read
more_digit : (st : List Back) (d : ℕ) → d < 10 → read_more st (48 + d) ≡ with_digit st d
unfolding read_more
more_digit st d small =
    let caret : ((48 + d) == 94) ≡ false = grind (arith, nat_tests) in
    let tilde : ((48 + d) == 126) ≡ false = grind (arith, nat_tests) in
    let digit : is_ascii_digit (48 + d) ≡ true = grind (arith, nat_tests) in
    let less : (48 + d) - 48 ≡ d = omega arith in
    λ i. cond (caret i) (Some (Caret ∷ st)) (cond (tilde i) (Some (Tilde ∷ st)) (cond (digit i) (with_digit st (less i)) None))

read_digit : (st now : List Back) (d : ℕ) (rest : List ℕ) → d < 10 → with_digit st d ≡ Some now → read st ((48 + d) ∷ rest) ≡ read now rest
unfolding read
read_digit st now d rest small e = ap (λ (o : Option (List Back)). option_and_then (λ mid. read mid rest) o) (more_digit st d small ∙ e)

longer : (st : List Back) (n d : ℕ) → 0 < n → with_digit (Tildes n ∷ st) d ≡ Some (Tildes (n * 10 + d) ∷ st)
unfolding with_digit with_digit_by
longer st n d some =
    let is : (n == 0) ≡ false = grind (arith, nat_tests) in
    ap (λ (b : Bool). with_digit_by b (Tildes (n * 10 + d) ∷ st)) is

first_digit : (st : List Back) (d : ℕ) → with_digit (Tilde ∷ st) d ≡ Some (Tildes d ∷ st)
unfolding with_digit
first_digit st d = refl

read_number : (k n : ℕ) → n ≤ k → (st : List Back) (rest : List ℕ) → read (Tilde ∷ st) (number_digits n ++ rest) ≡ read (Tildes n ∷ st) rest
read_number zero n fits st rest =
    let small : n < 10 = omega arith in
    ap (λ (z : List ℕ). read (Tilde ∷ st) (z ++ rest)) (digits_short n small) ∙ read_digit (Tilde ∷ st) (Tildes n ∷ st) n rest small (first_digit st n)
read_number (suc k) n fits st rest = ⊎_elim
    (λ (small : n < 10). ap (λ (z : List ℕ). read (Tilde ∷ st) (z ++ rest)) (digits_short n small) ∙ read_digit (Tilde ∷ st) (Tildes n ∷ st) n rest small (first_digit st n))
    (λ (large : 10 ≤ n).
    let m : ℕ = n / 10 in
    let d : ℕ = n % 10 in
    let small : n % 10 < 10 = omega arith in
    let some : 0 < n / 10 = omega arith in
    let less : n / 10 ≤ k = omega arith in
    let whole : (n / 10) * 10 + n % 10 ≡ n = omega arith in
    ap (λ (x : ℕ). read (Tilde ∷ st) (number_digits x ++ rest)) (sym whole)
    ∙ ap (λ (z : List ℕ). read (Tilde ∷ st) (z ++ rest)) (digits_long (n / 10) (n % 10) some small)
    ∙ ap (λ (z : List ℕ). read (Tilde ∷ st) z) (append_assoc (number_digits (n / 10)) ((48 + n % 10) ∷ []) rest)
    ∙ read_number k (n / 10) less st ((48 + n % 10) ∷ rest)
    ∙ read_digit (Tildes (n / 10) ∷ st) (Tildes ((n / 10) * 10 + n % 10) ∷ st) (n % 10) rest small (longer st (n / 10) (n % 10) some)
    ∙ ap (λ (x : ℕ). read (Tildes x ∷ st) rest) whole)
    (lt_or_le n 10)
  where
    lt_or_le : (a b : ℕ) → (a < b) ⊎ (b ≤ a)
    lt_or_le a b = grind arith

read_back : (b : Back) (st : List Back) (rest : List ℕ) → read st (back_text b ++ rest) ≡ read (b ∷ st) rest
unfolding read read_more
read_back Caret st rest = refl
read_back Tilde st rest = refl
read_back (Tildes n) st rest = read_number n n (omega arith) st rest

-- put in front, one after the other
onto : List Back → List Back → List Back
onto st [] = st
onto st (b ∷ backs) = onto (b ∷ st) backs

read_backs : (backs st : List Back) → read st (flat_map back_text backs) ≡ Some (onto st backs)
unfolding read onto
read_backs [] st = refl
read_backs (b ∷ backs) st = read_back b st (flat_map back_text backs) ∙ read_backs backs (b ∷ st)

onto_flat : (acc st : List Back) → flat_map back_text (onto acc st) ≡ texts st ++ flat_map back_text acc
unfolding texts onto
onto_flat acc [] = refl
onto_flat acc (b ∷ st) = onto_flat (b ∷ acc) st ∙ sym (append_assoc (texts st) (back_text b) (flat_map back_text acc))

onto_counts : (acc st : List Back) → all_counts (onto acc st) ≡ all_counts acc + all_counts st
unfolding onto
onto_counts acc [] = omega arith
onto_counts acc (b ∷ st) = omega (arith, onto_counts (b ∷ acc) st)

-- ---- as the program reads it: counts are limited
view : List Back → Going
view [] = at_base
view (Caret ∷ st) = record { count = limited (all_counts st); last = CaretLast }
view (Tilde ∷ st) = record { count = limited (all_counts st); last = TildeLast }
view (Tildes n ∷ st) = record { count = limited (all_counts st); last = Number (limited n) }

limited_sum : (m n : ℕ) → limited (limited m + limited n) ≡ limited (n + m)
limited_sum m n = omega arith

limited_next : (m : ℕ) → limited (limited m + 1) ≡ limited (1 + m)
limited_next m = omega arith

limited_more : (n d : ℕ) → limited (limited n * 10 + d) ≡ limited (n * 10 + d)
limited_more n d = omega arith

view_total : (st : List Back) → total (view st) ≡ limited (all_counts st)
unfolding view
view_total [] = refl
view_total (Caret ∷ st) = limited_next (all_counts st)
view_total (Tilde ∷ st) = limited_next (all_counts st)
view_total (Tildes n ∷ st) = limited_sum (all_counts st) n

view_digit : (st : List Back) (d : ℕ) → d < 10 → option_map (λ last. with_last (view st) last) (more (view st).last d) ≡ option_map view (with_digit st d)
unfolding view with_digit with_digit_by
view_digit [] d small = refl
view_digit (Caret ∷ st) d small = refl
view_digit (Tilde ∷ st) d small =
    let same : d ≡ limited d = omega arith in
    ap (λ (n : ℕ). Some (with_last (view (Tilde ∷ st)) (Number n))) same
view_digit (Tildes n ∷ st) d small = by (n == 0) refl
  where
    by : (b : Bool) → (n == 0) ≡ b → option_map (λ last. with_last (view (Tildes n ∷ st)) last) (number_more (limited n) d) ≡ option_map view (with_digit_by b (Tildes (n * 10 + d) ∷ st))
    by true is =
        let none : (limited n == 0) ≡ true = grind (arith, nat_tests) in
        ap (λ (b : Bool). option_map (λ last. with_last (view (Tildes n ∷ st)) last) (cond b None (Some (Number (limited (limited n * 10 + d)))))) none
    by false is =
        let some : (limited n == 0) ≡ false = grind (arith, nat_tests) in
        ap (λ (b : Bool). option_map (λ last. with_last (view (Tildes n ∷ st)) last) (cond b None (Some (Number (limited (limited n * 10 + d)))))) some
        ∙ ap (λ (m : ℕ). Some (with_last (view (Tildes n ∷ st)) (Number m))) (limited_more n d)

count_then : ℕ → Last → Going
count_then n last = record { count = n; last = last }

view_more : (st : List Back) (b : ℕ) → next (view st) b ≡ option_map view (read_more st b)
unfolding next read_more view count_then
view_more st b = by (b == 94) (b == 126) (is_ascii_digit b) refl refl refl
  where
    by : (caret tilde digit : Bool) → (b == 94) ≡ caret → (b == 126) ≡ tilde → is_ascii_digit b ≡ digit
        → cond caret (Some (then_last (view st) CaretLast)) (cond tilde (Some (then_last (view st) TildeLast)) (cond digit (option_map (λ last. with_last (view st) last) (more (view st).last (b - 48))) None))
        ≡ option_map view (cond caret (Some (Caret ∷ st)) (cond tilde (Some (Tilde ∷ st)) (cond digit (with_digit st (b - 48)) None)))
    by true tilde digit is is_tilde is_digit = ap (λ (n : ℕ). Some (count_then n CaretLast)) (view_total st)
    by false true digit is is_tilde is_digit = ap (λ (n : ℕ). Some (count_then n TildeLast)) (view_total st)
    by false false true is is_tilde is_digit = view_digit st (b - 48) (digit_range b is_digit).1
    by false false false is is_tilde is_digit = refl

view_all : (st : List Back) (text : List ℕ) → gone (view st) text ≡ option_map view (read st text)
unfolding read
view_all st [] = refl
view_all st (b ∷ text) = ap (λ (o : Option Going). option_and_then (λ now. gone now text) o) (view_more st b) ∙ by (λ mid. view_all mid text) (read_more st b)
  where
    by : ((mid : List Back) → gone (view mid) text ≡ option_map view (read mid text)) → (o : Option (List Back)) → option_and_then (λ now. gone now text) (option_map view o) ≡ option_map view (option_and_then (λ now. read now text) o)
    by rest None = refl
    by rest (Some mid) = rest mid

count_read : (text : List ℕ) → count_in text ≡ option_map (λ st. limited (all_counts st)) (read [] text)
unfolding view
count_read text = ap (λ (o : Option Going). option_map (λ going. total going) o) (view_all [] text) ∙ by (read [] text)
  where
    by : (o : Option (List Back)) → option_map (λ going. total going) (option_map view o) ≡ option_map (λ st. limited (all_counts st)) o
    by None = refl
    by (Some st) = ap Some (view_total st)

-- ---- the base stands before the first byte that goes back
abbrev stop : List ℕ → ℕ
stop word = position_or_len is_back_byte word

-- nothing, or it begins with such a byte
data Front : List ℕ → Type 0 where
  nothing : Front []
  begins : (b : ℕ) (rest : List ℕ) → is_back_byte b ≡ true → Front (b ∷ rest)

flat_front : (backs : List Back) → Front (flat_map back_text backs)
flat_front [] = nothing
flat_front (Caret ∷ backs) = begins 94 (flat_map back_text backs) refl
flat_front (Tilde ∷ backs) = begins 126 (flat_map back_text backs) refl
flat_front (Tildes n ∷ backs) = begins 126 (number_digits n ++ flat_map back_text backs) refl

stop_front : (rest : List ℕ) → Front rest → stop rest ≡ 0
stop_front [] nothing = refl
stop_front (b ∷ rest) (begins c more is) = ap (λ (t : Bool). cond (not t) (1 + stop rest) 0) is

stop_here : (base rest : List ℕ) → list_any is_back_byte base ≡ false → Front rest → (take (stop (base ++ rest)) (base ++ rest) ≡ base) × (drop (stop (base ++ rest)) (base ++ rest) ≡ rest)
stop_here [] rest plain front = (λ i. take (stop_front rest front i) rest, λ i. drop (stop_front rest front i) rest)
stop_here (x ∷ base) rest plain front = by (λ k. stop_here base rest k front) (is_back_byte x) refl plain
  where
    by : (list_any is_back_byte base ≡ false → (take (stop (base ++ rest)) (base ++ rest) ≡ base) × (drop (stop (base ++ rest)) (base ++ rest) ≡ rest)) → (b : Bool) → is_back_byte x ≡ b → (b || list_any is_back_byte base) ≡ false
        → (take (stop (x ∷ base ++ rest)) (x ∷ base ++ rest) ≡ x ∷ base) × (drop (stop (x ∷ base ++ rest)) (x ∷ base ++ rest) ≡ rest)
    by rec true is k = absurd (cc k)
    by rec false is k =
        let more : stop (x ∷ base ++ rest) ≡ suc (stop (base ++ rest)) = ap (λ (t : Bool). cond (not t) (1 + stop (base ++ rest)) 0) is ∙ omega arith in
        (ap (λ (n : ℕ). take n (x ∷ base ++ rest)) more ∙ ap (λ (z : List ℕ). x ∷ z) (rec k).0, ap (λ (n : ℕ). drop n (x ∷ base ++ rest)) more ∙ (rec k).1)

stop_plain : (word : List ℕ) → list_any is_back_byte (take (stop word) word) ≡ false
stop_plain [] = refl
stop_plain (x ∷ word) = by (stop_plain word) (is_back_byte x) refl
  where
    by : list_any is_back_byte (take (stop word) word) ≡ false → (b : Bool) → is_back_byte x ≡ b → list_any is_back_byte (take (stop (x ∷ word)) (x ∷ word)) ≡ false
    by rec true is = ap (λ (t : Bool). list_any is_back_byte (take (cond (not t) (1 + stop word) 0) (x ∷ word))) is
    by rec false is =
        let more : stop (x ∷ word) ≡ suc (stop word) = ap (λ (t : Bool). cond (not t) (1 + stop word) 0) is ∙ omega arith in
        ap (λ (n : ℕ). list_any is_back_byte (take n (x ∷ word))) more ∙ ap (λ (t : Bool). t || list_any is_back_byte (take (stop word) word)) is ∙ rec

abbrev base_ends : List ℕ → ℕ
base_ends word = unwrap_or (position is_back_byte word) (length word)

ends_stop : (word : List ℕ) → base_ends word ≡ stop word
ends_stop word = by (nat_lt (stop word) (length word)) refl
  where
    by : (b : Bool) → nat_lt (stop word) (length word) ≡ b → unwrap_or (cond b (Some (stop word)) None) (length word) ≡ stop word
    by true is = refl
    by false is =
        let most = prefix_len-le-length (λ x. not (is_back_byte x)) word in
        let least : length word ≤ stop word = grind (arith, nat_tests) in
        omega arith

-- ---- one reading
pub read_none : (word rest : List ℕ) → rest ≡ drop (base_ends word) word → count_in rest ≡ None → (base : List ℕ) (count : ℕ) → IsRevision word base count → ⊥
read_none word rest split none base count is =
    let text : word ≡ base ++ flat_map back_text is.backs = is.text in
    let behind : rest ≡ flat_map back_text is.backs =
    split ∙ ap (λ (n : ℕ). drop n word) (ends_stop word) ∙ ap (λ (w : List ℕ). drop (stop w) w) text ∙ (stop_here base (flat_map back_text is.backs) is.plain (flat_front is.backs)).1 in
    let some : count_in rest ≡ Some (limited (all_counts (onto [] is.backs))) =
    ap count_in behind ∙ count_read (flat_map back_text is.backs) ∙ ap (λ (o : Option (List Back)). option_map (λ st. limited (all_counts st)) o) (read_backs is.backs []) in
    absurd (cc (sym none ∙ some))

pub read_some : (word base rest : List ℕ) (count : ℕ) → base ≡ take (base_ends word) word → rest ≡ drop (base_ends word) word → count_in rest ≡ Some count → IsRead word base count
unfolding texts
read_some word base rest count front split is = by (read [] rest) refl (sym (count_read rest) ∙ is)
  where
    by : (o : Option (List Back)) → read [] rest ≡ o → option_map (λ st. limited (all_counts st)) o ≡ Some count → IsRead word base count
    by None e k = absurd (cc k)
    by (Some st) e k =
        let counts : limited (all_counts st) ≡ count = cc k in
        let flat : flat_map back_text (onto [] st) ≡ rest = onto_flat [] st ∙ append-nil (texts st) ∙ read_text [] rest st e in
        record {
          exact = all_counts st;
          revision = record {
            backs = onto [] st;
            plain = ap (λ (n : List ℕ). list_any is_back_byte n) (front ∙ ap (λ (n : ℕ). take n word) (ends_stop word)) ∙ stop_plain word;
            text = sym (take-append-drop (base_ends word) word) ∙ (λ i. sym front i ++ sym split i) ∙ ap (λ (z : List ℕ). base ++ z) (sym flat);
            counted = sym (onto_counts [] st ∙ omega arith);
          };
          counted = sym counts;
        }

pub one_reading : (word one two : List ℕ) (m n : ℕ) → IsRevision word one m → IsRevision word two n → (one ≡ two) × (m ≡ n)
one_reading word one two m n a b =
    let cut_a = stop_here one (flat_map back_text a.backs) a.plain (flat_front a.backs) in
    let cut_b = stop_here two (flat_map back_text b.backs) b.plain (flat_front b.backs) in
    let bases : one ≡ two = sym cut_a.0 ∙ ap (λ (w : List ℕ). take (stop w) w) (sym a.text ∙ b.text) ∙ cut_b.0 in
    let flats : flat_map back_text a.backs ≡ flat_map back_text b.backs = sym cut_a.1 ∙ ap (λ (w : List ℕ). drop (stop w) w) (sym a.text ∙ b.text) ∙ cut_b.1 in
    let both : Some (onto [] a.backs) ≡ Some (onto [] b.backs) = sym (read_backs a.backs []) ∙ ap (read []) flats ∙ read_backs b.backs [] in
    let counts : all_counts (onto [] a.backs) ≡ all_counts (onto [] b.backs) = ap (λ (o : Option (List Back)). unwrap_or (option_map all_counts o) 0) both in
    (bases, omega (arith, a.counted, b.counted, onto_counts [] a.backs, onto_counts [] b.backs, counts))
