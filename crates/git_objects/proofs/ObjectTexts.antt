-- An object's text has one kind and one body.
use Rattle.std.proofs.Common.{◌≡◌, ℕ, suc, ◌+◌, ◌≤◌, Bool, true, false, cond, not, ◌||◌, List, [], ◌∷◌, ◌++◌, length, drop, Option, Some, None, refl, sym, ap, subst, ◌∙◌, arith, append_assoc, length-append}
use Rattle.std.specs.Prelude.{bytes_eq}
use Rattle.std.specs.List.{list_any, position_or_len}
use Rattle.std.proofs.lemmas.Bool.{false_from_ne_true, false≢true}
use Rattle.std.proofs.lemmas.List.{length-drop}
use Rattle.std.proofs.lemmas.Slice.Eq.{bytes_eq-Decides}
use Rattle.places.proofs.Texts.{or_neither}
use Rattle.git_objects.specs.Cuts.{Lacks}
use Rattle.git_objects.specs.Kinds.{kind_text, header_of, text_of_object}
use Rattle.git_objects.specs.Numbers.{number_text}
use Rattle.git_objects.specs.Readings.{is_nul, after_nul, is_text_of, is_object_text, Object}
use Rattle.git_objects.specs.Readings.{object_in}
use Rattle.git_objects.specs.declared.objects.ObjKind.{ObjKind}
use Rattle.git_objects.specs.declared.objects.ObjKind.TheVariants.{Blob, Tree, Commit, Tag}
use Rattle.git_objects.proofs.Cutting.{cut_once}
use Rattle.git_objects.proofs.Decimals.{number_lacks}
use Rattle.git_objects.proofs.Readings.{object_text}

-- ---- kinds

no_blank : (kind : ObjKind) → Lacks 32 (kind_text kind)
no_blank Blob = refl
no_blank Tree = refl
no_blank Commit = refl
no_blank Tag = refl

-- the kind whose word this is
kind_of : List ℕ → ObjKind
kind_of text = cond (bytes_eq text (kind_text Blob)) Blob (cond (bytes_eq text (kind_text Tree)) Tree (cond (bytes_eq text (kind_text Commit)) Commit Tag))

kind_of-kind_text : (kind : ObjKind) → kind_of (kind_text kind) ≡ kind
unfolding kind_of
kind_of-kind_text Blob = refl
kind_of-kind_text Tree = refl
kind_of-kind_text Commit = refl
kind_of-kind_text Tag = refl

same_kind : (k l : ObjKind) → kind_text k ≡ kind_text l → k ≡ l
same_kind k l e = sym (kind_of-kind_text k) ∙ ap kind_of e ∙ kind_of-kind_text l

-- ---- the body

no_nul_ahead : (kind : ObjKind) (size : ℕ) → Lacks 0 (kind_text kind ++ 32 ∷ number_text size)
no_nul_ahead Blob size = number_lacks 0 size (omega arith)
no_nul_ahead Tree size = number_lacks 0 size (omega arith)
no_nul_ahead Commit size = number_lacks 0 size (omega arith)
no_nul_ahead Tag size = number_lacks 0 size (omega arith)

nul_place : (a body : List ℕ) → Lacks 0 a → position_or_len is_nul (a ++ 0 ∷ body) ≡ length a
nul_place [] body h = refl
nul_place (c ∷ a) body h =
    let p = or_neither (is_nul c) (list_any is_nul a) h in
    let more = nul_place a body p.1 in
    let one : 1 + length a ≡ suc (length a) = omega arith in
    (λ i. cond (not (p.0 i)) (1 + position_or_len is_nul (a ++ 0 ∷ body)) 0) ∙ ap (λ (n : ℕ). 1 + n) more ∙ one

past_seam : (a body : List ℕ) → drop (length a + 1) (a ++ 0 ∷ body) ≡ body
past_seam [] body = refl
past_seam (c ∷ a) body =
    let up : suc (length a) + 1 ≡ suc (length a + 1) = omega arith in
    ap (λ (n : ℕ). drop n (c ∷ (a ++ 0 ∷ body))) up ∙ past_seam a body

after_header : (a : List ℕ) (body : List ℕ) → Lacks 0 a → after_nul (a ++ 0 ∷ body) ≡ body
after_header a body h = ap (λ (n : ℕ). drop (n + 1) (a ++ 0 ∷ body)) (nul_place a body h) ∙ past_seam a body

pub after_nul-text_of_object : (kind : ObjKind) (body : List ℕ) → after_nul (text_of_object kind body) ≡ body
after_nul-text_of_object kind body =
    let front = kind_text kind ++ 32 ∷ number_text (length body) in
    ap after_nul (append_assoc front (0 ∷ []) body) ∙ after_header front body (no_nul_ahead kind (length body))

-- ---- one reading

pub kind_once : (k l : ObjKind) (x y : List ℕ) → text_of_object k x ≡ text_of_object l y → (k ≡ l) × (x ≡ y)
kind_once k l x y e =
    let body : x ≡ y = sym (after_nul-text_of_object k x) ∙ ap after_nul e ∙ after_nul-text_of_object l y in
    let whole = sym (in_kinds k x) ∙ e ∙ in_kinds l y in
    (same_kind k l (cut_once 32 (kind_text k) (kind_text l) _ _ (no_blank k) (no_blank l) whole).0, body)
  where
    in_kinds : (kind : ObjKind) (body : List ℕ) → text_of_object kind body ≡ kind_text kind ++ 32 ∷ (number_text (length body) ++ 0 ∷ body)
    in_kinds kind body = append_assoc (kind_text kind ++ 32 ∷ number_text (length body)) (0 ∷ []) body ∙ append_assoc (kind_text kind) (32 ∷ number_text (length body)) (0 ∷ body)

is_text_of-own : (kind : ObjKind) (body : List ℕ) → is_text_of kind (text_of_object kind body) ≡ true
is_text_of-own kind body =
    (bytes_eq-Decides (text_of_object kind body) _).1 (ap (text_of_object kind) (sym (after_nul-text_of_object kind body)))

not_other : (k l : ObjKind) (body : List ℕ) → (k ≡ l → ⊥) → is_text_of l (text_of_object k body) ≡ false
not_other k l body h = false_from_ne_true _ (λ e. h (kind_once k l body _ ((bytes_eq-Decides (text_of_object k body) _).0 e)).0)

choice : (b t c g : Bool) → List ℕ → Option Object
choice b t c g body =
    cond b (Some (record { kind = Blob; body = body }))
    (cond t (Some (record { kind = Tree; body = body })) (cond c (Some (record { kind = Commit; body = body })) (cond g (Some (record { kind = Tag; body = body })) None)))

in_choice : (text : List ℕ) → object_in text ≡ choice (is_text_of Blob text) (is_text_of Tree text) (is_text_of Commit text) (is_text_of Tag text) (after_nul text)
unfolding object_in choice
in_choice text = refl

-- the object of its own text, and of no other
pub object_in-text_of_object : (kind : ObjKind) (body : List ℕ) → object_in (text_of_object kind body) ≡ Some (record { kind = kind; body = body })
unfolding choice
object_in-text_of_object Blob body =
    let t = text_of_object Blob body in
    in_choice t ∙ (λ i. choice (is_text_of-own Blob body i) (is_text_of Tree t) (is_text_of Commit t) (is_text_of Tag t) (after_nul-text_of_object Blob body i))
object_in-text_of_object Tree body =
    let t = text_of_object Tree body in
    in_choice t ∙ (λ i. choice (not_other Tree Blob body (λ e. cc e) i) (is_text_of-own Tree body i) (is_text_of Commit t) (is_text_of Tag t) (after_nul-text_of_object Tree body i))
object_in-text_of_object Commit body =
    let t = text_of_object Commit body in
    in_choice t ∙ (λ i. choice (not_other Commit Blob body (λ e. cc e) i) (not_other Commit Tree body (λ e. cc e) i) (is_text_of-own Commit body i) (is_text_of Tag t) (after_nul-text_of_object Commit body i))
object_in-text_of_object Tag body =
    let t = text_of_object Tag body in
    in_choice t ∙ (λ i. choice (not_other Tag Blob body (λ e. cc e) i) (not_other Tag Tree body (λ e. cc e) i) (not_other Tag Commit body (λ e. cc e) i) (is_text_of-own Tag body i) (after_nul-text_of_object Tag body i))

from_choice : (text : List ℕ) (o : Object) (b t c g : Bool)
    → is_text_of Blob text ≡ b → is_text_of Tree text ≡ t → is_text_of Commit text ≡ c → is_text_of Tag text ≡ g
    → choice b t c g (after_nul text) ≡ Some o → text ≡ text_of_object o.kind o.body
unfolding choice
from_choice text o true t c g hb ht hc hg e =
    let same : record { kind = Blob; body = after_nul text } ≡ o = cc e in
    subst (λ (z : Object). text ≡ text_of_object z.kind z.body) same ((bytes_eq-Decides text _).0 hb)
from_choice text o false true c g hb ht hc hg e =
    let same : record { kind = Tree; body = after_nul text } ≡ o = cc e in
    subst (λ (z : Object). text ≡ text_of_object z.kind z.body) same ((bytes_eq-Decides text _).0 ht)
from_choice text o false false true g hb ht hc hg e =
    let same : record { kind = Commit; body = after_nul text } ≡ o = cc e in
    subst (λ (z : Object). text ≡ text_of_object z.kind z.body) same ((bytes_eq-Decides text _).0 hc)
from_choice text o false false false true hb ht hc hg e =
    let same : record { kind = Tag; body = after_nul text } ≡ o = cc e in
    subst (λ (z : Object). text ≡ text_of_object z.kind z.body) same ((bytes_eq-Decides text _).0 hg)
from_choice text o false false false false hb ht hc hg e = absurd (cc e)

pub text_of_object-object_in : (text : List ℕ) (o : Object) → object_in text ≡ Some o → text ≡ text_of_object o.kind o.body
text_of_object-object_in text o e = from_choice text o _ _ _ _ refl refl refl refl (sym (in_choice text) ∙ e)

-- no object's text has no object
pub no_object : (text : List ℕ) → is_object_text text ≡ false → object_in text ≡ None
unfolding is_object_text choice
no_object text h =
    let one = or_neither (is_text_of Blob text) (is_text_of Tree text || (is_text_of Commit text || is_text_of Tag text)) h in
    let two = or_neither (is_text_of Tree text) (is_text_of Commit text || is_text_of Tag text) one.1 in
    let three = or_neither (is_text_of Commit text) (is_text_of Tag text) two.1 in
    in_choice text ∙ (λ i. choice (one.0 i) (two.0 i) (three.0 i) (three.1 i) (after_nul text))

pub no_text : (text : List ℕ) → is_object_text text ≡ false → (kind : ObjKind) (body : List ℕ) → text ≡ text_of_object kind body → ⊥
no_text text none kind body is = false≢true (sym none ∙ object_text text body kind is (ap after_nul is ∙ after_nul-text_of_object kind body))

-- what is read of an object's text is what it was made of
pub read_back : (text : List ℕ) (read : ObjKind × ℕ) → read.1 ≤ length text → text ≡ text_of_object read.0 (drop read.1 text) → (kind : ObjKind) (body : List ℕ) → text ≡ text_of_object kind body
    → Some read ≡ Some (kind, length (header_of kind (length body)))
read_back text read within parts kind body is =
    let same = kind_once read.0 kind (drop read.1 text) body (sym parts ∙ is) in
    let size : read.1 ≡ length (header_of kind (length body)) = omega (arith, within, ap length same.1, length-drop read.1 text, ap length is, length-append (header_of kind (length body)) body) in
    λ i. Some (same.0 i, size i)
