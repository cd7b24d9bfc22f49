-- What a cut at a byte says, and that a text has one.
use Rattle.std.proofs.Common.{◌≡◌, ℕ, suc, ◌<◌, ◌≤◌, Bool, true, false, List, [], ◌∷◌, ◌++◌, length, take, drop, get_or, Some, None, inl, inr, refl, sym, ap, ◌∙◌, arith}
use Rattle.std.specs.Prelude.{◌==◌}
use Rattle.std.specs.List.{list_any, position, position_or_len}
use Rattle.std.proofs.Math.Seq.{drop-cons}
use Rattle.std.proofs.lemmas.Bool.{cases_lt, eqb-true, false≢true}
use Rattle.std.proofs.lemmas.Bool.Decides.{nat_tests}
use Rattle.std.proofs.lemmas.List.{take-append-drop, length-take-le, get_or-take}
use Rattle.std.proofs.lemmas.List.Elements.{All-from_get_or}
use Rattle.std.proofs.lemmas.List.Folds.{list_any_none}
use Rattle.std.proofs.lemmas.List.Quantifiers.{position-Some}
use Rattle.std.proofs.lemmas.List.Sums.{fails_before_first}
use Rattle.places.proofs.Texts.{or_neither}
use Rattle.git_objects.specs.Cuts.{Lacks, IsCut}

abbrev is_byte : ℕ → ℕ → Bool
is_byte byte = λ b. b == byte

-- no place, no such byte
pub cut_none : (byte : ℕ) (text : List ℕ) → position (λ b. b == byte) text ≡ None → Lacks byte text
cut_none byte text h =
    list_any_none (is_byte byte) text (All-from_get_or (λ b. is_byte byte b ≡ false) text 0 (λ k lt. fails_before_first (is_byte byte) text k 0 (below k lt)))
  where
    far : length text ≤ position_or_len (is_byte byte) text
    far = elim (cases_lt (position_or_len (is_byte byte) text) (length text)) [
      | inl lt ↦ absurd (grind (arith, h, lt))
      | inr le ↦ le
    ]

    below : (k : ℕ) → k < length text → k < position_or_len (is_byte byte) text
    below k lt = let le = far in omega arith

-- a text cut at the first place
pub cut_some : (byte : ℕ) (text front rest back : List ℕ) (at : ℕ) → position (λ b. b == byte) text ≡ Some at → front ≡ take at text → rest ≡ drop at text → back ≡ drop 1 rest → IsCut byte text front back
cut_some byte text front rest back at found is_front is_rest is_back =
    let q = position-Some (is_byte byte) text at 0 found in
    let here : get_or text at 0 ≡ byte = eqb-true (get_or text at 0) byte q.1 in
    let tail : drop at text ≡ byte ∷ drop (suc at) text = drop-cons text at 0 q.0 ∙ ap (λ (n : ℕ). n ∷ drop (suc at) text) here in
    let rest_is : drop 1 rest ≡ drop (suc at) text = ap (drop 1) (is_rest ∙ tail) in
    let size = length-take-le at text (omega (arith, q.0)) in
    record {
      parts = sym (take-append-drop at text) ∙ ap (λ (z : List ℕ). take at text ++ z) tail ∙ ap (λ (z : List ℕ). z ++ byte ∷ drop (suc at) text) (sym is_front) ∙ ap (λ (z : List ℕ). front ++ byte ∷ z) (sym (is_back ∙ rest_is));
      first = ap (list_any (is_byte byte)) is_front ∙ list_any_none (is_byte byte) (take at text)
          (All-from_get_or (λ b. is_byte byte b ≡ false) (take at text) 0 (λ k lt. let below : k < at = omega (arith, size, lt) in ap (is_byte byte) (get_or-take at text k 0 below) ∙ q.2 k below));
    }

-- two texts up to a byte that neither has before it
pub cut_once : (s : ℕ) (a b x y : List ℕ) → list_any (λ c. c == s) a ≡ false → list_any (λ c. c == s) b ≡ false → a ++ s ∷ x ≡ b ++ s ∷ y → (a ≡ b) × (x ≡ y)
cut_once s [] [] x y h k e = (refl, cc e)
cut_once s [] (c ∷ b) x y h k e =
    let p = or_neither (c == s) (list_any (λ c. c == s) b) k in
    let same : s ≡ c = cc e in
    absurd (false≢true (sym p.0 ∙ ap (λ (z : ℕ). z == s) (sym same) ∙ itself s))
  where
    itself : (n : ℕ) → (n == n) ≡ true
    itself n = grind arith
cut_once s (c ∷ a) [] x y h k e =
    let p = or_neither (c == s) (list_any (λ c. c == s) a) h in
    let same : c ≡ s = cc e in
    absurd (false≢true (sym p.0 ∙ ap (λ (z : ℕ). z == s) same ∙ itself s))
  where
    itself : (n : ℕ) → (n == n) ≡ true
    itself n = grind arith
cut_once s (c ∷ a) (d ∷ b) x y h k e =
    let same : c ≡ d = cc e in
    let tails : a ++ s ∷ x ≡ b ++ s ∷ y = cc e in
    let more = cut_once s a b x y (or_neither (c == s) (list_any (λ c. c == s) a) h).1 (or_neither (d == s) (list_any (λ c. c == s) b) k).1 tails in
    ((λ i. same i ∷ more.0 i), more.1)

-- two texts whose fronts have one length
pub same_length : (a b x y : List ℕ) → length a ≡ length b → a ++ x ≡ b ++ y → (a ≡ b) × (x ≡ y)
same_length [] [] x y h e = (refl, e)
same_length [] (d ∷ b) x y h e = absurd (omega arith)
same_length (c ∷ a) [] x y h e = absurd (omega arith)
same_length (c ∷ a) (d ∷ b) x y h e =
    let same : c ≡ d = cc e in
    let tails : a ++ x ≡ b ++ y = cc e in
    let more = same_length a b x y (omega arith) tails in
    ((λ i. same i ∷ more.0 i), more.1)

-- a byte that stands in a text isn't lacking
pub lacks_none : (byte : ℕ) (front back : List ℕ) → Lacks byte (front ++ byte ∷ back) → ⊥
lacks_none byte [] back h = false≢true (sym (or_neither (byte == byte) (list_any (is_byte byte) back) h).0 ∙ itself byte)
  where
    itself : (n : ℕ) → (n == n) ≡ true
    itself n = grind arith
lacks_none byte (c ∷ front) back h = lacks_none byte front back (or_neither (c == byte) (list_any (is_byte byte) (front ++ byte ∷ back)) h).1

-- a text that isn't empty has bytes
pub filled : (rest : List ℕ) → (length rest == 0) ≡ false → 0 < length rest
filled rest h = grind (arith, nat_tests)
