-- Texts of logs, line by line.
use Rattle.std.proofs.Common.{◌≡◌, ℕ, ◌+◌, ◌≤◌, true, List, [], ◌∷◌, ◌++◌, length, inl, inr, refl, sym, ap, ◌∙◌, subst, arith, append_assoc, length-append}
use Rattle.std.specs.List.{AllByRecursion, AllZip}
use Rattle.std.proofs.lemmas.List.{append-nil}
use Rattle.std.proofs.lemmas.List.Splits.{length-slice_split}
use Rattle.std.proofs.lemmas.List.Sums.{count_by-le-length}
use Rattle.location_log.specs.Laws.{HaveOneReading}
use Rattle.location_log.specs.Plain.{PlainLine}
use Rattle.location_log.specs.Steps.{Takes}
use Rattle.location_log.specs.Texts.{IsBadAt, IsLineText, IsLogText, IsPassed, filled, is_newline, lines_of}
use Rattle.location_log.proofs.Readings.{line_once, line_some}

-- ---- one line after the other
pub zip_more : (line : PlainLine) (text : List ℕ) (lines : List PlainLine) (texts : List (List ℕ)) → IsLineText line text → AllZip IsLineText lines (filled texts)
    → AllZip IsLineText (line ∷ lines) (filled (text ∷ texts))
zip_more line [] lines texts h k = absurd (line_some line h)
zip_more line (b ∷ text) lines texts h k = (h, k)

zip_push : (lines : List PlainLine) (texts : List (List ℕ)) (line : PlainLine) (text : List ℕ) → AllZip IsLineText lines texts → IsLineText line text
    → AllZip IsLineText (lines ++ line ∷ []) (texts ++ text ∷ [])
zip_push [] [] line text h k = (k, tt)
zip_push [] (t ∷ texts) line text h k = absurd h
zip_push (l ∷ lines) [] line text h k = absurd h
zip_push (l ∷ lines) (t ∷ texts) line text h k = (h.0, zip_push lines texts line text h.1 k)

filled_push : (texts : List (List ℕ)) (text : List ℕ) → filled (texts ++ text ∷ []) ≡ filled texts ++ filled (text ∷ [])
filled_push [] text = refl
filled_push ([] ∷ texts) text = filled_push texts text
filled_push ((b ∷ t) ∷ texts) text = ap (λ (z : List (List ℕ)). (b ∷ t) ∷ z) (filled_push texts text)

all_push : (texts : List (List ℕ)) (text : List ℕ) → AllByRecursion IsPassed texts → IsPassed text → AllByRecursion IsPassed (texts ++ text ∷ [])
all_push [] text h k = (k, tt)
all_push (t ∷ texts) text h k = (h.0, all_push texts text h.1 k)

-- what is read so far
pub record SoFar (bytes : List ℕ) (count : ℕ) (left : List (List ℕ)) (lines : List PlainLine) : Type 0 where
  pub before : List (List ℕ)
  pub parts : lines_of bytes ≡ before ++ left
  pub counted : count ≡ length before
  pub passed : AllByRecursion IsPassed before
  pub taken : AllZip IsLineText lines (filled before)

pub so_far : (bytes : List ℕ) → SoFar bytes 0 (lines_of bytes) []
so_far bytes = record { before = []; parts = refl; counted = refl; passed = tt; taken = tt }

so_far_line : (bytes : List ℕ) (count : ℕ) (line : List ℕ) (rest : List (List ℕ)) (old new : List PlainLine) → (s : SoFar bytes count (line ∷ rest) old)
    → Takes line old new true → AllZip IsLineText new (filled (s.before ++ line ∷ [])) × IsPassed line
so_far_line bytes count line rest old new s (inl t) = (
  subst (λ (z : List PlainLine). AllZip IsLineText z (filled (s.before ++ line ∷ []))) (sym t.1)
      (subst (λ (z : List (List ℕ)). AllZip IsLineText old z) (sym same) s.taken),
  inl t.0,
)
  where
    same : filled (s.before ++ line ∷ []) ≡ filled s.before
    same = filled_push s.before line ∙ (ap (λ (z : List ℕ). filled s.before ++ filled (z ∷ [])) t.0 ∙ append-nil (filled s.before))
so_far_line bytes count line rest old new s (inr t) = (
  subst (λ (z : List PlainLine). AllZip IsLineText z (filled (s.before ++ line ∷ []))) (sym t.2)
      (subst (λ (z : List (List ℕ)). AllZip IsLineText (old ++ t.0 ∷ []) z) (sym (filled_push s.before line)) (more line t.1)),
  inr (t.0, t.1),
)
  where
    more : (text : List ℕ) → IsLineText t.0 text → AllZip IsLineText (old ++ t.0 ∷ []) (filled s.before ++ filled (text ∷ []))
    more [] h = absurd (line_some t.0 h)
    more (b ∷ text) h = zip_push old (filled s.before) t.0 (b ∷ text) s.taken h

pub so_far_more : (bytes : List ℕ) (count : ℕ) (line : List ℕ) (rest : List (List ℕ)) (old new : List PlainLine) → SoFar bytes count (line ∷ rest) old
    → Takes line old new true → SoFar bytes (count + 1) rest new
so_far_more bytes count line rest old new s t =
    let step = so_far_line bytes count line rest old new s t in
    let counted = s.counted in
    let long = length-append s.before (line ∷ []) in
    record {
      before = s.before ++ line ∷ [];
      parts = s.parts ∙ sym (append_assoc s.before (line ∷ []) rest);
      counted = omega arith;
      passed = all_push s.before line s.passed step.1;
      taken = step.0;
    }

pub so_far_bad : (bytes : List ℕ) (count : ℕ) (line : List ℕ) (rest : List (List ℕ)) (old : List PlainLine) → SoFar bytes count (line ∷ rest) old
    → (IsPassed line → ⊥) → IsBadAt bytes (count + 1)
so_far_bad bytes count line rest old s stops = record {
  before = s.before;
  bad = line;
  after = rest;
  parts = s.parts;
  place = ap (λ (n : ℕ). n + 1) s.counted;
  earlier = s.passed;
  stops = stops;
}

pub so_far_end : (bytes : List ℕ) (count : ℕ) (lines : List PlainLine) → SoFar bytes count [] lines → IsLogText lines bytes
so_far_end bytes count lines s =
    subst (λ (z : List (List ℕ)). AllZip IsLineText lines (filled z)) (sym (s.parts ∙ append-nil s.before)) s.taken

-- there are no more lines than bytes, and one
pub so_far_few : (bytes : List ℕ) (count : ℕ) (line : List ℕ) (rest : List (List ℕ)) (lines : List PlainLine) → SoFar bytes count (line ∷ rest) lines → count ≤ length bytes
so_far_few bytes count line rest lines s =
    let long = ap length s.parts ∙ length-append s.before (line ∷ rest) in
    let parts = length-slice_split is_newline bytes in
    let few = count_by-le-length is_newline bytes in
    let counted = s.counted in
    omega arith

-- ---- one reading
zip_once : (texts : List (List ℕ)) (one two : List PlainLine) → AllZip IsLineText one texts → AllZip IsLineText two texts → one ≡ two
zip_once [] [] [] h k = refl
zip_once [] [] (b ∷ two) h k = absurd k
zip_once [] (a ∷ one) two h k = absurd h
zip_once (t ∷ texts) [] two h k = absurd h
zip_once (t ∷ texts) (a ∷ one) [] h k = absurd k
zip_once (t ∷ texts) (a ∷ one) (b ∷ two) h k = λ i. line_once a b t h.0 k.0 i ∷ zip_once texts one two h.1 k.1 i

same_place : (f g : List (List ℕ)) (x y : List ℕ) (b d : List (List ℕ)) → f ++ x ∷ b ≡ g ++ y ∷ d → AllByRecursion IsPassed f → AllByRecursion IsPassed g
    → (IsPassed x → ⊥) → (IsPassed y → ⊥) → length f ≡ length g
same_place [] [] x y b d e h k p q = refl
same_place [] (z ∷ g) x y b d e h k p q =
    let head : x ≡ z = cc e in
    absurd (p (subst IsPassed (sym head) k.0))
same_place (z ∷ f) [] x y b d e h k p q =
    let head : z ≡ y = cc e in
    absurd (q (subst IsPassed head h.0))
same_place (z ∷ f) (w ∷ g) x y b d e h k p q =
    let tail : f ++ x ∷ b ≡ g ++ y ∷ d = cc e in
    let more = same_place f g x y b d tail h.1 k.1 p q in
    omega arith

no_bad : (before : List (List ℕ)) (bad : List ℕ) (after : List (List ℕ)) (lines : List PlainLine) → AllZip IsLineText lines (filled (before ++ bad ∷ after)) → (IsPassed bad → ⊥) → ⊥
no_bad [] [] after lines h stops = stops (inl refl)
no_bad [] (b ∷ bad) after [] h stops = absurd h
no_bad [] (b ∷ bad) after (l ∷ lines) h stops = stops (inr (l, h.0))
no_bad ([] ∷ before) bad after lines h stops = no_bad before bad after lines h stops
no_bad ((b ∷ t) ∷ before) bad after [] h stops = absurd h
no_bad ((b ∷ t) ∷ before) bad after (l ∷ lines) h stops = no_bad before bad after lines h.1 stops

pub one_reading : HaveOneReading
one_reading = record {
  lines = λ text one two h k. zip_once (filled (lines_of text)) one two h k;
  place = λ text m n p q.
      p.place ∙ (ap (λ (k : ℕ). k + 1) (same_place p.before q.before p.bad q.bad p.after q.after (sym p.parts ∙ q.parts) p.earlier q.earlier p.stops q.stops) ∙ sym q.place);
  apart = λ text lines n h p.
      no_bad p.before p.bad p.after lines (subst (λ (z : List (List ℕ)). AllZip IsLineText lines (filled z)) p.parts h) p.stops;
}
