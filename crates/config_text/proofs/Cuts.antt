-- Texts cut at a byte: its first place says how.
use Rattle.std.proofs.Common.{◌≡◌, ℕ, suc, ◌+◌, ◌-◌, ◌<◌, Bool, true, false, not, cond, nat_lt, add-one, List, [], ◌∷◌, length, take, drop, Option, Some, None, inl, inr, refl, sym, ap, ◌∙◌, arith}
use Rattle.std.specs.Prelude.{◌==◌, option_map}
use Rattle.std.specs.List.{position, position_or_len, onto_first}
use Rattle.std.proofs.lemmas.Bool.{cases_Bool, cases_lt, cond-true, cond-false, lt-ltb, le-ltb}
use Rattle.std.proofs.lemmas.List.{take_rest}
use Rattle.std.proofs.Math.Seq.{take-length, drop-length}
use Rattle.config_text.specs.Lines.{lines_of, cut_at}

abbrev later : Option ℕ → Option ℕ
later place = option_map (λ (k : ℕ). suc k) place

place_next : (n m : ℕ) → cond (nat_lt (1 + n) (suc m)) (Some (1 + n)) None ≡ later (cond (nat_lt n m) (Some n) None)
place_next n m = elim (cases_lt n m) [
  | inl lt ↦
      cond-true (nat_lt (1 + n) (suc m)) (Some (1 + n)) None (lt-ltb (1 + n) (suc m) (omega arith))
      ∙ (ap Some (omega arith) ∙ sym (ap later (cond-true (nat_lt n m) (Some n) None (lt-ltb n m lt))))
  | inr le ↦
      cond-false (nat_lt (1 + n) (suc m)) (Some (1 + n)) None (le-ltb (1 + n) (suc m) (omega arith))
      ∙ sym (ap later (cond-false (nat_lt n m) (Some n) None (le-ltb n m le)))
]

-- the first place, by whether the first byte passes, and by the place in the rest
place_by : Bool → ℕ → ℕ → Option ℕ
place_by b n m = cond (nat_lt (cond (not b) (1 + n) 0) (suc m)) (Some (cond (not b) (1 + n) 0)) None

place_here : (p : ℕ → Bool) (x : ℕ) (xs : List ℕ) → p x ≡ true → position p (x ∷ xs) ≡ Some 0
unfolding place_by
place_here p x xs h =
    ap (λ b. place_by b (position_or_len p xs) (length xs)) h
    ∙ cond-true (nat_lt 0 (suc (length xs))) (Some 0) None (lt-ltb 0 (suc (length xs)) (omega arith))

place_there : (p : ℕ → Bool) (x : ℕ) (xs : List ℕ) → p x ≡ false → position p (x ∷ xs) ≡ later (position p xs)
unfolding place_by
place_there p x xs h =
    ap (λ b. place_by b (position_or_len p xs) (length xs)) h ∙ place_next (position_or_len p xs) (length xs)

-- what a place says of the parts around it
abbrev pub around : List ℕ → Option ℕ → Option (List ℕ × List ℕ)
around t place = option_map (λ k. (take k t, drop (k + 1) t)) place

around_later : (x : ℕ) (xs : List ℕ) (o : Option ℕ) → option_map (λ parts. (x ∷ parts.0, parts.1)) (around xs o) ≡ around (x ∷ xs) (later o)
around_later x xs None = refl
around_later x xs (Some k) = simp add-one

pub cut_at_place : (b : ℕ) (t : List ℕ) → cut_at b t ≡ around t (position (λ y. y == b) t)
cut_at_place b [] = refl
cut_at_place b (x ∷ xs) = elim (cases_Bool (x == b)) [
  | inl here ↦
      cond-true (x == b) (Some ([], xs)) (option_map (λ p. (x ∷ p.0, p.1)) (cut_at b xs)) here
      ∙ sym (ap (around (x ∷ xs)) (place_here (λ y. y == b) x xs here))
  | inr there ↦
      cond-false (x == b) (Some ([], xs)) (option_map (λ p. (x ∷ p.0, p.1)) (cut_at b xs)) there
      ∙ ap (option_map (λ (p : List ℕ × List ℕ). (x ∷ p.0, p.1))) (cut_at_place b xs)
      ∙ around_later x xs (position (λ y. y == b) xs) ∙ sym (ap (around (x ∷ xs)) (place_there (λ y. y == b) x xs there))
]

pub cut_found : (b : ℕ) (t : List ℕ) (k : ℕ) → Some k ≡ position (λ y. y == b) t → Some (take k t, take (length t - (k + 1)) (drop (k + 1) t)) ≡ cut_at b t
cut_found b t k e =
    ap (λ (z : List ℕ). Some (take k t, z)) (take_rest t (k + 1)) ∙ (ap (around t) e ∙ sym (cut_at_place b t))

pub cut_none : (b : ℕ) (t : List ℕ) → None ≡ position (λ y. y == b) t → None ≡ cut_at b t
cut_none b t e = ap (around t) e ∙ sym (cut_at_place b t)

-- what the first newline's place says of the first line and the others
abbrev pub first_by : List ℕ → Option ℕ → List (List ℕ)
first_by t None = t ∷ []
first_by t (Some k) = take (k + 1) t ∷ lines_of (drop (k + 1) t)

abbrev newline : ℕ → Bool
newline y = y == 10

lines_later : (x : ℕ) (xs : List ℕ) (o : Option ℕ) → onto_first x (first_by xs o) ≡ first_by (x ∷ xs) (later o)
lines_later x xs None = refl
lines_later x xs (Some k) = simp add-one

lines_more : (x : ℕ) (ys : List ℕ) → (0 < length ys → lines_of ys ≡ first_by ys (position newline ys)) → onto_first x (lines_of ys) ≡ first_by (x ∷ ys) (later (position newline ys))
lines_more x [] more = refl
lines_more x (y ∷ ys) more = ap (onto_first x) (more (omega arith)) ∙ lines_later x (y ∷ ys) (position newline (y ∷ ys))

lines_first : (t : List ℕ) → 0 < length t → lines_of t ≡ first_by t (position newline t)
lines_first [] some = absurd (omega arith)
lines_first (x ∷ xs) some = elim (cases_Bool (x == 10)) [
  | inl here ↦
      cond-true (x == 10) ((x ∷ []) ∷ lines_of xs) (onto_first x (lines_of xs)) here
      ∙ sym (ap (first_by (x ∷ xs)) (place_here newline x xs here))
  | inr there ↦
      cond-false (x == 10) ((x ∷ []) ∷ lines_of xs) (onto_first x (lines_of xs)) there
      ∙ (lines_more x xs (lines_first xs) ∙ sym (ap (first_by (x ∷ xs)) (place_there newline x xs there)))
]

pub line_cut : (t : List ℕ) (k : ℕ) → Some k ≡ position newline t → 0 < length t → lines_of t ≡ take (k + 1) t ∷ lines_of (drop (k + 1) t)
line_cut t k e some = lines_first t some ∙ ap (first_by t) (sym e)

pub line_last : (t : List ℕ) → None ≡ position newline t → 0 < length t → lines_of t ≡ take (length t) t ∷ lines_of (drop (length t) t)
line_last t e some =
    lines_first t some ∙ ap (first_by t) (sym e)
    ∙ sym (ap (λ (z : List ℕ). z ∷ lines_of (drop (length t) t)) (take-length t) ∙ ap (λ (z : List ℕ). t ∷ lines_of z) (drop-length t))
