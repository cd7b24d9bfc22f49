-- Texts cut at a byte.
use Rattle.std.proofs.Common.{◌≡◌, ℕ, ◌+◌, ◌-◌, ◌<◌, ◌≤◌, false, List, [], ◌∷◌, ◌++◌, length, get_or, take, drop, inl, inr, refl, sym, ap, ◌∙◌, subst, arith, add-one}
use Rattle.std.specs.Prelude.{◌==◌}
use Rattle.std.specs.List.{All, list_any}
use Rattle.std.proofs.lemmas.Bool.{cases_Bool, false≢true, ne_eqb, eqb-false, or_parts, or_from}
use Rattle.std.proofs.lemmas.List.{get_or-take, get_or_default, length-take-le, take-append-drop, take_rest}
use Rattle.std.proofs.lemmas.List.Folds.{list_any_none, list_any_at}
use Rattle.std.proofs.lemmas.List.Splits.{slice_split_at, slice_split_none}
use Rattle.std.proofs.Math.Seq.{drop-cons, take-length}
use Rattle.location_log.specs.Steps.{IsCut, IsFirstAt, Lacks, NotBelow}
use Rattle.location_log.specs.Texts.{is_newline, lines_of}

below_lacks : (byte : ℕ) (text : List ℕ) (n : ℕ) → n ≤ length text → NotBelow byte text n → Lacks byte (take n text)
below_lacks byte text n le none = list_any_none (λ b. b == byte) (take n text) (λ k d lt.
    let long = length-take-le n text le in
    let within : k < n = omega arith in
    let inside : k < length text = omega arith in
    ap (λ b. b == byte) (get_or-take n text k d within ∙ get_or_default text k d 0 inside)
    ∙ ne_eqb (get_or text k 0) byte (λ e. none k within e))

pub none_lacks : (byte : ℕ) (text : List ℕ) → NotBelow byte text (length text) → Lacks byte text
none_lacks byte text none =
    subst (Lacks byte) (take-length text) (below_lacks byte text (length text) (omega arith) none)

-- what stands before the first byte and after it
pub cut_here : (byte : ℕ) (text : List ℕ) (at : ℕ) → IsFirstAt byte text at
    → IsCut byte text (take at text) (take (length text - (at + 1)) (drop (at + 1) text))
cut_here byte text at f =
    let within = f.within in
    record {
      parts =
          sym (take-append-drop at text)
          ∙ ap (λ (z : List ℕ). take at text ++ z)
          (drop-cons text at 0 within
          ∙ (λ i. f.here i ∷ drop (sym (add-one at) i) text)
          ∙ ap (λ (z : List ℕ). byte ∷ z) (sym (take_rest text (at + 1))));
      first = below_lacks byte text at (omega arith) f.before;
    }

pub all_other : (byte : ℕ) (text : List ℕ) → Lacks byte text → All (λ b. (b == byte) ≡ false) text
all_other byte text h k d lt = elim (cases_Bool (get_or text k d == byte)) [
  | inl holds ↦ absurd (false≢true (sym h ∙ list_any_at (λ b. b == byte) text k d lt holds))
  | inr fails ↦ fails
]

-- the first line of a text, and the others
pub line_cut : (text line rest : List ℕ) → IsCut 10 text line rest → lines_of text ≡ line ∷ lines_of rest
line_cut text line rest c =
    ap lines_of c.parts ∙ slice_split_at is_newline line 10 rest (all_other 10 line c.first) refl

pub line_last : (text : List ℕ) → Lacks 10 text → lines_of text ≡ text ∷ []
line_last text h = slice_split_none is_newline text (all_other 10 text h)

pub lacks_cut : (byte : ℕ) (front back : List ℕ) → Lacks byte (front ++ byte ∷ back) → ⊥
lacks_cut byte [] back h =
    eqb-false byte byte (or_parts (byte == byte) (list_any (λ b. b == byte) back) h).0 refl
lacks_cut byte (x ∷ front) back h =
    lacks_cut byte front back (or_parts (x == byte) (list_any (λ b. b == byte) (front ++ byte ∷ back)) h).1

pub cut_none : (byte : ℕ) (text front back : List ℕ) → Lacks byte text → text ≡ front ++ byte ∷ back → ⊥
cut_none byte text front back h e = lacks_cut byte front back (subst (Lacks byte) e h)

pub once : (byte : ℕ) (f g b d : List ℕ) → f ++ byte ∷ b ≡ g ++ byte ∷ d → Lacks byte f → Lacks byte g → (f ≡ g) × (b ≡ d)
once byte [] [] b d e h k = (refl, cc e)
once byte [] (y ∷ g) b d e h k =
    let head : y ≡ byte = cc e in
    absurd (eqb-false y byte (or_parts (y == byte) (list_any (λ z. z == byte) g) k).0 head)
once byte (x ∷ f) [] b d e h k =
    let head : x ≡ byte = cc e in
    absurd (eqb-false x byte (or_parts (x == byte) (list_any (λ z. z == byte) f) h).0 head)
once byte (x ∷ f) (y ∷ g) b d e h k =
    let head : x ≡ y = cc e in
    let tail : f ++ byte ∷ b ≡ g ++ byte ∷ d = cc e in
    let more = once byte f g b d tail (or_parts (x == byte) (list_any (λ z. z == byte) f) h).1 (or_parts (y == byte) (list_any (λ z. z == byte) g) k).1 in
    (cc (head, more.0), more.1)

-- a text is cut in one way
pub cut_once : (byte : ℕ) (text f b : List ℕ) → IsCut byte text f b → (g d : List ℕ) → text ≡ g ++ byte ∷ d → Lacks byte g → (f ≡ g) × (b ≡ d)
cut_once byte text f b c g d e k = once byte f g b d (sym c.parts ∙ e) c.first k

pub lacks-append : (byte : ℕ) (x y : List ℕ) → Lacks byte x → Lacks byte y → Lacks byte (x ++ y)
lacks-append byte [] y h k = k
lacks-append byte (c ∷ x) y h k =
    let parts = or_parts (c == byte) (list_any (λ z. z == byte) x) h in
    or_from (c == byte) (list_any (λ z. z == byte) (x ++ y)) parts.0 (lacks-append byte x y parts.1 k)
