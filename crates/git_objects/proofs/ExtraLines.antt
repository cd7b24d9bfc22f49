-- What follows further lines, and which line may.
use Rattle.std.proofs.Common.{◌≡◌, ◌⊎◌, inl, inr, ℕ, suc, ◌-◌, Bool, true, false, not, ◌&&◌, List, [], ◌∷◌, ◌++◌, length, take, refl, sym, ap, subst, ◌∙◌, arith, append_assoc, append-nil, length-append}
use Rattle.std.specs.Prelude.{◌==◌, ◌↔◌, IsTrue, codes, nat_eq, slice_index_or}
use Rattle.std.specs.List.{flat_map, starts_with}
use Rattle.std.proofs.Math.Seq.{take-append_seam}
use Rattle.std.proofs.lemmas.Bool.{false≢true}
use Rattle.std.proofs.lemmas.Bool.Decides.{nat_tests}
use Rattle.std.proofs.lemmas.List.Elements.{All-append, All-cons, All-nil}
use Rattle.places.proofs.Texts.{not_true}
use Rattle.git_objects.specs.Cuts.{newline, Lacks, IsCut}
use Rattle.git_objects.specs.CommitLines.{IsExtraAndMessage, StopsAt}
use Rattle.git_objects.specs.Headers.{is_extra_line, ended, IsLine, IsExtra}
use Rattle.git_objects.proofs.Cutting.{cut_once, lacks_none}
use Rattle.git_objects.proofs.WholeLines.{flat_map-append, HasNext, next_line, lines_on, lines_once}

-- such a line isn't empty
line_filled : (line : List ℕ) → is_extra_line line ≡ true → line ≡ [] → ⊥
unfolding is_extra_line
line_filled [] h e = cc h
line_filled (x ∷ line) h e = cc e

line_whole : (line : List ℕ) → IsLine line → Lacks newline line
line_whole line h = h.whole

-- the empty line is none
no_next : (message : List ℕ) → HasNext IsLine (newline ∷ message) → ⊥
no_next message h = line_filled h.line h.next.valid (cut_once newline h.line [] h.after message h.whole refl (sym h.printed)).0

-- and neither is the end
no_end : HasNext IsLine [] → ⊥
no_end h = omega (arith, ap length h.printed, length-append h.line (newline ∷ h.after))

-- ---- the first byte

first-append : (a line x : List ℕ) → slice_index_or (a ++ ended line) 0 0 ≡ slice_index_or (a ++ (line ++ newline ∷ x)) 0 0
first-append [] [] x = refl
first-append [] (b ∷ line) x = refl
first-append (b ∷ a) line x = refl

first_whole : (a y : List ℕ) → (slice_index_or a 0 0 ≡ 32 → ⊥) → (slice_index_or y 0 0 ≡ 32 → ⊥) → slice_index_or (a ++ y) 0 0 ≡ 32 → ⊥
first_whole [] y h k = k
first_whole (b ∷ a) y h k = h

-- ---- one more line

pub extra_push : (front line : List ℕ) → IsExtra front → IsLine line → (slice_index_or (front ++ ended line) 0 0 ≡ 32 → ⊥) → IsExtra (front ++ ended line)
extra_push front line h valid first = record {
  lines = h.lines ++ line ∷ [];
  printed = ap (λ (z : List ℕ). z ++ ended line) h.printed ∙ ap (λ (z : List ℕ). flat_map ended h.lines ++ z) (sym (append-nil (ended line))) ∙ sym (flat_map-append h.lines (line ∷ []));
  each = All-append IsLine h.lines (line ∷ []) h.each (All-cons IsLine line [] valid (All-nil IsLine));
  first = first;
}

-- a line that may follow, or the empty one
abbrev pub MayFollow : List ℕ → List ℕ → Type 0
MayFollow front line = IsExtra (front ++ ended line) ⊎ (line ≡ [])

-- what stands in a commit after some of its further lines
pub extra_next : (front extra z message : List ℕ) → IsExtra front → IsExtra extra → front ++ z ≡ extra ++ newline ∷ message → HasNext (MayFollow front) z
extra_next front extra z message h k e =
    elim (lines_on IsLine line_whole h.lines k.lines z (newline ∷ message) h.each k.each (no_next message)
    (ap (λ (t : List ℕ). t ++ z) (sym h.printed) ∙ e ∙ ap (λ (t : List ℕ). t ++ newline ∷ message) k.printed)) [
      | inl n ↦ record {
        line = n.line;
        after = n.after;
        next = inl (extra_push front n.line h n.next (λ blank. first_whole extra (newline ∷ message) k.first (λ no. cc no)
            (ap (λ (t : List ℕ). slice_index_or t 0 0) (sym e ∙ ap (λ (t : List ℕ). front ++ t) n.printed) ∙ sym (first-append front n.line n.after) ∙ blank)));
        whole = n.whole;
        printed = n.printed;
      }
      | inr ends ↦ record { line = []; after = message; next = inr refl; whole = refl; printed = ends }
    ]

-- further lines and a message are told apart in one way
pub extra_once : (a b x y : List ℕ) → IsExtra a → IsExtra b → a ++ newline ∷ x ≡ b ++ newline ∷ y → (a ≡ b) × (x ≡ y)
extra_once a b x y h k e =
    let same = lines_once IsLine line_whole h.lines k.lines (newline ∷ x) (newline ∷ y) h.each k.each (no_next x) (no_next y)
    (ap (λ (t : List ℕ). t ++ newline ∷ x) (sym h.printed) ∙ e ∙ ap (λ (t : List ℕ). t ++ newline ∷ y) k.printed) in
    (h.printed ∙ ap (flat_map ended) same.0 ∙ sym k.printed, cc same.1)

-- a line that may follow is one
extra_last : (front line : List ℕ) → IsExtra front → Lacks newline line → IsExtra (front ++ ended line) → IsLine line
extra_last front line h whole k =
    elim (lines_on IsLine line_whole h.lines k.lines (ended line) [] h.each k.each no_end
    (ap (λ (t : List ℕ). t ++ ended line) (sym h.printed) ∙ k.printed ∙ sym (append-nil (flat_map ended k.lines)))) [
      | inl n ↦ next_line IsLine line [] whole n
      | inr ends ↦ absurd (omega (arith, ap length ends, length-append line (newline ∷ [])))
    ]

-- ---- the test of one more line

no_other : (P : Type 0) → (P → ⊥) → (IsTrue false → P) × (P → IsTrue false)
no_other P none = ((λ e. cc e), (λ p. absurd (none p)))

pub no_line : (front line : List ℕ) → IsExtra front → Lacks newline line → is_extra_line line ≡ false → IsTrue false ↔ IsExtra (front ++ ended line)
no_line front line h whole odd = no_other (IsExtra (front ++ ended line)) (λ k. false≢true (sym odd ∙ (extra_last front line h whole k).valid))

-- after another line
pub not_first : (front line : List ℕ) → IsExtra front → Lacks newline line → is_extra_line line ≡ true → (length front == 0) ≡ false → IsTrue true ↔ IsExtra (front ++ ended line)
not_first [] line h whole valid some = absurd (false≢true (sym some))
not_first (b ∷ front) line h whole valid some = ((λ _. extra_push (b ∷ front) line h (record { valid = valid; whole = whole }) h.first), (λ _. refl))

-- at the head
pub may_be_first : (front line : List ℕ) (r : Bool) → IsExtra front → Lacks newline line → is_extra_line line ≡ true → (length front == 0) ≡ true → r ≡ starts_with nat_eq line (codes " ")
    → IsTrue (not r) ↔ IsExtra (front ++ ended line)
may_be_first (b ∷ front) line r h whole valid none is = absurd (some (length front) none)
  where
    some : (n : ℕ) → (suc n == 0) ≡ true → ⊥
    some n e = grind (arith, nat_tests)
may_be_first [] [] r h whole valid none is = absurd (line_filled [] valid refl)
may_be_first [] (x ∷ line) r h whole valid none is = (
  λ no. extra_push [] (x ∷ line) h (record { valid = valid; whole = whole }) (λ blank. false≢true (sym (not_true r no) ∙ is ∙ is_blank x blank)),
  λ k. ap not (is ∙ ap (λ (b : Bool). b && true) (other x k.first)),
)
  where
    is_blank : (x : ℕ) → x ≡ 32 → (nat_eq 32 x && true) ≡ true
    is_blank x e = ap (λ (z : ℕ). nat_eq 32 z && true) e

    other : (x : ℕ) → (x ≡ 32 → ⊥) → nat_eq 32 x ≡ false
    other x h = grind (arith, nat_tests)

-- ---- reading on

-- further lines at the front
pub record IsFront (text rest : List ℕ) : Type 0 where
  pub front : List ℕ
  pub valid : IsExtra front
  pub printed : text ≡ front ++ rest

pub at_start : (text : List ℕ) → IsFront text text
at_start text = record { front = []; valid = record { lines = []; printed = refl; each = All-nil IsLine; first = λ e. cc e }; printed = refl }

-- what stands before the rest
pub taken : (text rest shown : List ℕ) (f : IsFront text rest) → shown ≡ take (length text - length rest) text → shown ≡ f.front
taken text rest shown f is =
    let size : length text - length rest ≡ length f.front = omega (arith, ap length f.printed, length-append f.front rest) in
    is ∙ (λ i. take (size i) (f.printed i)) ∙ take-append_seam f.front rest

pub one_more : (text rest line after : List ℕ) (f : IsFront text rest) → IsCut newline rest line after → IsExtra (f.front ++ ended line) → IsFront text after
one_more text rest line after f cut valid = record {
  front = f.front ++ ended line;
  valid = valid;
  printed = f.printed ∙ ap (λ (z : List ℕ). f.front ++ z) (cut.parts ∙ sym (append_assoc line (newline ∷ []) after)) ∙ sym (append_assoc f.front (ended line) after);
}

pub ends_empty : (text rest line after extra : List ℕ) (f : IsFront text rest) → extra ≡ f.front → IsCut newline rest line after → (length line == 0) ≡ true → IsExtraAndMessage text extra after
ends_empty text rest [] after extra f same cut empty = record {
  valid = subst IsExtra (sym same) f.valid;
  printed = f.printed ∙ (λ i. sym same i ++ cut.parts i);
}
ends_empty text rest (x ∷ line) after extra f same cut empty = absurd (some (length line) empty)
  where
    some : (n : ℕ) → (suc n == 0) ≡ true → ⊥
    some n e = grind (arith, nat_tests)

pub stops_open : (text rest : List ℕ) → IsFront text rest → Lacks newline rest → StopsAt text rest
stops_open text rest f none = record {
  front = f.front;
  valid = f.valid;
  printed = f.printed;
  none = λ line after whole is _. lacks_none newline line after (subst (Lacks newline) is none);
  unended = λ after is. lacks_none newline [] after (subst (Lacks newline) is none);
}

pub stops_line : (text rest line after : List ℕ) (f : IsFront text rest) → IsCut newline rest line after → (length line == 0) ≡ false → (IsExtra (f.front ++ ended line) → ⊥) → StopsAt text rest
stops_line text rest line after f cut some other = record {
  front = f.front;
  valid = f.valid;
  printed = f.printed;
  none = λ own tail whole is valid.
      let same = cut_once newline own line tail after whole cut.first (sym is ∙ cut.parts) in
      other (subst (λ (z : List ℕ). IsExtra (f.front ++ ended z)) same.0 valid);
  unended = λ tail is. empty line (cut_once newline [] line tail after refl cut.first (sym is ∙ cut.parts)).0 some;
}
  where
    empty : (l : List ℕ) → [] ≡ l → (length l == 0) ≡ false → ⊥
    empty [] e h = false≢true (sym h)
    empty (x ∷ l) e h = cc e
