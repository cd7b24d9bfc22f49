-- How a file is kept, rule by rule, and that it is kept in one way.
use Rattle.std.proofs.Common.{◌≡◌, ◌↔◌, inl, inr, ℕ, Bool, true, false, List, refl, sym, ap, ◌∙◌, subst}
use Rattle.std.specs.Prelude.{IfOk, IsTrue, MatchOption, Option, Some, None, Result, Ok, Err}
use Rattle.annex_keys.specs.All.{IsPointer, Matches, PlainKey, key_of, pointer_text}
use Rattle.annex_keys.proofs.Readings.{one_reading}
use Rattle.git_objects.specs.declared.ids.Id.{Id}
use Rattle.kept_files.specs.declared.kept.Kept.{Kept}
use Rattle.kept_files.specs.declared.kept.Kept.TheVariants.{Same, InGit, Pointer, Content}
use Rattle.kept_files.specs.Kept.{IsKept, IsOldContent, Points, Stays}
use Rattle.kept_files.specs.Laws.{KeptIsOne}
use Rattle.kept_files.specs.Paths.{last_name}

-- ---- one way

same_tests : (a b : Bool) (P : Type 0) → (IsTrue a ↔ P) → (IsTrue b ↔ P) → a ≡ b
same_tests true true P h k = refl
same_tests true false P h k = sym (k.1 (h.0 refl))
same_tests false true P h k = h.1 (k.0 refl)
same_tests false false P h k = refl

pointed_once : (bytes one two : List ℕ) → Points bytes one → Points bytes two → one ≡ two
pointed_once bytes one two h k =
    h.printed ∙ ap pointer_text (one_reading.pointer bytes h.key k.key h.pointer k.pointer) ∙ sym k.printed

pub one_way : KeptIsOne
one_way blob key path to_git bytes (Same a) (Same b) h k = ap Same (same_tests a b (IsOldContent key bytes) h.1 k.1)
one_way blob key path to_git bytes (Same a) InGit h k = absurd (k.0.changed h.0)
one_way blob key path to_git bytes (Same a) (Pointer t) h k = absurd (k.0 h.0)
one_way blob key path to_git bytes (Same a) (Content t x) h k = absurd (k.0.changed h.0)
one_way blob key path to_git bytes InGit (Same b) h k = absurd (h.0.changed k.0)
one_way blob key path to_git bytes InGit InGit h k = refl
one_way blob key path to_git bytes InGit (Pointer t) h k = absurd (h.0.plain k.1.key k.1.pointer)
one_way blob key path to_git bytes InGit (Content t x) h k = absurd (cc (h.1, k.1))
one_way blob key path to_git bytes (Pointer s) (Same b) h k = absurd (h.0 k.0)
one_way blob key path to_git bytes (Pointer s) InGit h k = absurd (k.0.plain h.1.key h.1.pointer)
one_way blob key path to_git bytes (Pointer s) (Pointer t) h k = ap Pointer (pointed_once bytes s t h.1 k.1)
one_way blob key path to_git bytes (Pointer s) (Content t x) h k = absurd (k.0.plain h.1.key h.1.pointer)
one_way blob key path to_git bytes (Content s y) (Same b) h k = absurd (h.0.changed k.0)
one_way blob key path to_git bytes (Content s y) InGit h k = absurd (cc (h.1, k.1))
one_way blob key path to_git bytes (Content s y) (Pointer t) h k = absurd (h.0.plain k.1.key k.1.pointer)
one_way blob key path to_git bytes (Content s y) (Content t x) h k =
    let keys : y ≡ x = h.2 ∙ sym k.2 in
    let texts : s ≡ t = h.3 ∙ ap pointer_text keys ∙ sym k.3 in
    cc (keys, texts)

-- ---- an old leaf that is annexed

-- keys of one content, of which the second is that of the bytes
pub matches_by_own : (key own : PlainKey) (bytes name : List ℕ) → own ≡ key_of bytes name → (key.size ≡ own.size) × (key.digest ≡ own.digest) → Matches key bytes
unfolding key_of
matches_by_own key own bytes name e h = record { size = h.0 ∙ ap (λ (k : PlainKey). k.size) e; digest = h.1 ∙ ap (λ (k : PlainKey). k.digest) e }

own_by_matches : (key own : PlainKey) (bytes name : List ℕ) → own ≡ key_of bytes name → Matches key bytes → (key.size ≡ own.size) × (key.digest ≡ own.digest)
unfolding key_of
own_by_matches key own bytes name e h = (h.size ∙ sym (ap (λ (k : PlainKey). k.size) e), h.digest ∙ sym (ap (λ (k : PlainKey). k.digest) e))

-- keys of two contents
pub no_content : (same : Bool) (key own : PlainKey) (bytes name : List ℕ) → own ≡ key_of bytes name → (IsTrue same ↔ ((key.size ≡ own.size) × (key.digest ≡ own.digest))) → same ≡ false → Matches key bytes → ⊥
no_content same key own bytes name e test off h = absurd (cc (test.1 (own_by_matches key own bytes name e h), off))

-- the bytes are the old content
pub still_content : (blob : Option Id) (key : PlainKey) (path bytes : List ℕ) (to_git : Bool) → Matches key bytes → IsKept blob (Some key) path to_git bytes (Same true)
still_content blob key path bytes to_git h = (inr h, (λ _. h, λ _. refl))

-- the bytes point to the old content
pub still_pointer : (blob : Option Id) (key found : PlainKey) (path bytes : List ℕ) (to_git : Bool) → (Matches key bytes → ⊥) → IsPointer bytes found → key ≡ found → IsKept blob (Some key) path to_git bytes (Same false)
still_pointer blob key found path bytes to_git off h e = (inl (subst (IsPointer bytes) (sym e) h), (λ t. absurd (cc t), λ m. absurd (off m)))

-- the bytes point to another content
pub other_pointer : (blob : Option Id) (key found : PlainKey) (path bytes : List ℕ) (to_git : Bool) → (Matches key bytes → ⊥) → IsPointer bytes found → (key ≡ found → ⊥) → IsKept blob (Some key) path to_git bytes (Pointer (pointer_text found))
other_pointer blob key found path bytes to_git off h differ = (changed, record { key = found; pointer = h; printed = refl })
  where
    changed : Stays blob (Some key) bytes → ⊥
    changed (inl p) = differ (one_reading.pointer bytes key found p h)
    changed (inr m) = off m

-- the bytes are another content
pub other_content : (blob : Option Id) (key own : PlainKey) (path bytes : List ℕ) (to_git : Bool) → (Matches key bytes → ⊥) → ((other : PlainKey) → IsPointer bytes other → ⊥) → own ≡ key_of bytes (last_name path)
    → IsKept blob (Some key) path to_git bytes (Content (pointer_text own) own)
other_content blob key own path bytes to_git off plain e = (record { changed = changed; plain = plain }, refl, e, refl)
  where
    changed : Stays blob (Some key) bytes → ⊥
    changed (inl p) = plain key p
    changed (inr m) = off m

-- ---- what a helper answers

pub none_points : (bytes : List ℕ) (found : Option PlainKey) → MatchOption found ((key : PlainKey) → IsPointer bytes key → ⊥) (IsPointer bytes) → found ≡ None → (key : PlainKey) → IsPointer bytes key → ⊥
none_points bytes None h e = h
none_points bytes (Some x) h e = absurd (cc e)

pub this_points : (bytes : List ℕ) (found : Option PlainKey) (key : PlainKey) → MatchOption found ((key : PlainKey) → IsPointer bytes key → ⊥) (IsPointer bytes) → found ≡ Some key → IsPointer bytes key
this_points bytes None key h e = absurd (cc e)
this_points bytes (Some x) key h e =
    let same : x ≡ key = cc e in
    subst (IsPointer bytes) same h

-- a call answers one value, of which a fact holds
pub holds_of_it : {E : Type 0} (result : Result Kept E) (value : Kept) (P : Kept → Type 0) → IfOk result (λ kept. kept ≡ value) → P value → IfOk result P
holds_of_it (Ok kept) value P e h = subst P (sym e) h
holds_of_it (Err e) value P h k = tt
