-- Which texts are read as objects' texts.
use Rattle.std.proofs.Common.{◌≡◌, ℕ, ◌+◌, ◌<◌, ◌≤◌, Bool, true, false, ◌||◌, inl, inr, List, [], ◌∷◌, ◌++◌, length, drop, get_or, Some, None, refl, sym, ap, ◌∙◌, arith, append_assoc, length-append}
use Rattle.std.specs.Prelude.{bytes_eq, decimal}
use Rattle.std.specs.Bool.{Decides}
use Rattle.std.specs.List.{position, position_or_len}
use Rattle.std.proofs.lemmas.Bool.{cases_lt, false_from_ne_true, false≢true}
use Rattle.std.proofs.lemmas.List.{append_cancel_left, append_cancel_right}
use Rattle.std.proofs.lemmas.List.Sums.{fails_before_first}
use Rattle.std.proofs.lemmas.Slice.Eq.{bytes_eq-Decides}
use Rattle.std.proofs.Math.Seq.{get_or-append_seam}
use Rattle.git_objects.specs.Kinds.{kind_text, header_of, text_of_object}
use Rattle.git_objects.specs.Readings.{is_nul, after_nul, is_text_of, is_object_text, IsNoHeader}
use Rattle.git_objects.specs.declared.objects.ObjKind.{ObjKind}
use Rattle.git_objects.specs.declared.objects.ObjKind.TheVariants.{Blob, Tree, Commit, Tag}

-- THE LAST BYTE of a header
pub header_end : (kind : ObjKind) (size : ℕ) (rest : List ℕ) (r : Bool) → r ≡ bytes_eq rest (0 ∷ []) → Decides r (kind_text kind ++ 32 ∷ (decimal size ++ rest) ≡ header_of kind size)
header_end kind size rest r is =
    let cut : kind_text kind ++ 32 ∷ (decimal size ++ rest) ≡ (kind_text kind ++ 32 ∷ decimal size) ++ rest = sym (append_assoc (kind_text kind) (32 ∷ decimal size) rest) in (
      λ h. cut ∙ ap (λ (z : List ℕ). (kind_text kind ++ 32 ∷ decimal size) ++ z) ((bytes_eq-Decides rest (0 ∷ [])).0 (sym is ∙ h)),
      λ e. is ∙ (bytes_eq-Decides rest (0 ∷ [])).1 (append_cancel_left (kind_text kind ++ 32 ∷ decimal size) rest (0 ∷ []) (sym cut ∙ e)),
    )

-- THE TEST over four kinds
no_kind : (text : List ℕ) → ((kind : ObjKind) → is_text_of kind text ≡ false) → is_object_text text ≡ false
unfolding is_object_text
no_kind text h = λ i. h Blob i || (h Tree i || (h Commit i || h Tag i))

or_true : (a : Bool) → (a || true) ≡ true
or_true true = refl
or_true false = refl

some_kind : (text : List ℕ) (kind : ObjKind) → is_text_of kind text ≡ true → is_object_text text ≡ true
unfolding is_object_text
some_kind text Blob h = λ i. h i || (is_text_of Tree text || (is_text_of Commit text || is_text_of Tag text))
some_kind text Tree h =
    ap (λ b. is_text_of Blob text || (b || (is_text_of Commit text || is_text_of Tag text))) h ∙ or_true (is_text_of Blob text)
some_kind text Commit h =
    ap (λ b. is_text_of Blob text || (is_text_of Tree text || (b || is_text_of Tag text))) h
    ∙ ap (λ b. is_text_of Blob text || b) (or_true (is_text_of Tree text)) ∙ or_true (is_text_of Blob text)
some_kind text Tag h =
    ap (λ b. is_text_of Blob text || (is_text_of Tree text || (is_text_of Commit text || b))) h
    ∙ ap (λ b. is_text_of Blob text || (is_text_of Tree text || b)) (or_true (is_text_of Commit text))
    ∙ ap (λ b. is_text_of Blob text || b) (or_true (is_text_of Tree text)) ∙ or_true (is_text_of Blob text)

differs : (text : List ℕ) (kind : ObjKind) → (text ≡ text_of_object kind (after_nul text) → ⊥) → is_text_of kind text ≡ false
differs text kind h = false_from_ne_true _ (λ e. h ((bytes_eq-Decides text _).0 e))

-- A TEXT WITHOUT NUL
pub position_none : (text : List ℕ) → position is_nul text ≡ None → length text ≤ position_or_len is_nul text
position_none text h = elim (cases_lt (position_or_len is_nul text) (length text)) [
  | inl lt ↦ absurd (grind (arith, h, lt))
  | inr le ↦ le
]

pub nul_inside : (text front body : List ℕ) → length text ≤ position_or_len is_nul text → text ≡ front ++ 0 ∷ body → ⊥
nul_inside text front body h e =
    let lt : length front < length text = omega (arith, ap length e, length-append front (0 ∷ body)) in
    let at : get_or text (length front) 1 ≡ 0 = ap (λ (z : List ℕ). get_or z (length front) 1) e ∙ get_or-append_seam front 0 body 1 in
    let no : is_nul (get_or text (length front) 1) ≡ false = fails_before_first is_nul text (length front) 1 (omega arith) in
    false≢true (sym no ∙ ap is_nul at)

pub without_nul : (text : List ℕ) → position is_nul text ≡ None → is_object_text text ≡ false
without_nul text h = no_kind text (λ kind. differs text kind (λ e.
    nul_inside text (kind_text kind ++ 32 ∷ decimal (length (after_nul text))) (after_nul text) (position_none text h)
    (e ∙ append_assoc (kind_text kind ++ 32 ∷ decimal (length (after_nul text))) (0 ∷ []) (after_nul text))))

-- A TEXT CUT after its first NUL
pub position_some : (text : List ℕ) (k : ℕ) → position is_nul text ≡ Some k → position_or_len is_nul text ≡ k
position_some text k h = elim (cases_lt (position_or_len is_nul text) (length text)) [
  | inl lt ↦ grind (arith, h, lt)
  | inr le ↦ absurd (grind (arith, h, le))
]

pub after_position : (text : List ℕ) (k : ℕ) → position is_nul text ≡ Some k → after_nul text ≡ drop (k + 1) text
after_position text k h = ap (λ (n : ℕ). drop (n + 1) text) (position_some text k h)

pub other_header : (text header body : List ℕ) → text ≡ header ++ body → after_nul text ≡ body → IsNoHeader header (length body) → is_object_text text ≡ false
other_header text header body cut after none = no_kind text (λ kind. differs text kind (λ e.
    none kind (append_cancel_right header (header_of kind (length body)) body (sym cut ∙ e ∙ ap (text_of_object kind) after))))

pub object_text : (text body : List ℕ) (kind : ObjKind) → text ≡ text_of_object kind body → after_nul text ≡ body → is_object_text text ≡ true
object_text text body kind e after = some_kind text kind ((bytes_eq-Decides text _).1 (e ∙ ap (text_of_object kind) (sym after)))
