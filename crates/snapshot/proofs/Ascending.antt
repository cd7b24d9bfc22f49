-- Lists of pointers whose paths ascend.
use Rattle.std.proofs.Common.{◌≡◌, ◌↔◌, ◌++◌, ◌∷◌, [], ℕ, Bool, true, false, cond, List, Some, inl, inr, ◌⊎◌, refl, sym, ap, ◌∙◌, subst, arith}
use Rattle.std.specs.Prelude.{bytes_eq}
use Rattle.std.proofs.lemmas.Slice.Eq.{bytes_eq-Decides}
use Rattle.annex_keys.specs.All.{PlainKey}
use Rattle.snapshot.specs.Order.{Below}
use Rattle.snapshot.specs.Pointers.{AreAscending, EachPointer, HasKey, key_at}
use Rattle.snapshot.specs.declared.pointing.Pointer.{Pointer}
use Rattle.snapshot.proofs.Order.{not_below_itself}

pub EachPointer-append : (P : Pointer → Type 0) (xs ys : List Pointer) → EachPointer P xs → EachPointer P ys → EachPointer P (xs ++ ys)
EachPointer-append P [] ys each more = more
EachPointer-append P (x ∷ xs) ys each more = (each.0, EachPointer-append P xs ys each.1 more)

pub EachPointer-weaker : (P Q : Pointer → Type 0) → ((p : Pointer) → P p → Q p) → (xs : List Pointer) → EachPointer P xs → EachPointer Q xs
EachPointer-weaker P Q f [] each = tt
EachPointer-weaker P Q f (x ∷ xs) each = (f x each.0, EachPointer-weaker P Q f xs each.1)

-- what has a key at a path has the path
has_path : (P : List ℕ → Type 0) (xs : List Pointer) (path : List ℕ) (key : PlainKey) → EachPointer (λ p. P p.path) xs → HasKey xs path key → P path
has_path P [] path key each h = absurd h
has_path P (x ∷ xs) path key each (inl (is, of)) = subst P is each.0
has_path P (x ∷ xs) path key each (inr h) = has_path P xs path key each.1 h

-- one more, past all of them
pub ascending_more : (xs : List Pointer) (x : Pointer) → AreAscending xs → EachPointer (λ p. Below p.path x.path) xs → AreAscending (xs ++ x ∷ [])
ascending_more [] x ascending past = (tt, tt)
ascending_more (y ∷ xs) x ascending past = (EachPointer-append (λ q. Below y.path q.path) xs (x ∷ []) ascending.0 (past.0, tt), ascending_more xs x ascending.1 past.1)

pub has_more : (xs ys : List Pointer) (path : List ℕ) (key : PlainKey) → HasKey (xs ++ ys) path key → HasKey xs path key ⊎ HasKey ys path key
has_more [] ys path key h = inr h
has_more (x ∷ xs) ys path key (inl is) = inl (inl is)
has_more (x ∷ xs) ys path key (inr h) = elim (has_more xs ys path key h) [
  | inl here ↦ inl (inr here)
  | inr past ↦ inr past
]

pub has_front : (xs ys : List Pointer) (path : List ℕ) (key : PlainKey) → HasKey xs path key → HasKey (xs ++ ys) path key
has_front [] ys path key h = absurd h
has_front (x ∷ xs) ys path key (inl is) = inl is
has_front (x ∷ xs) ys path key (inr h) = inr (has_front xs ys path key h)

pub has_back : (xs ys : List Pointer) (path : List ℕ) (key : PlainKey) → HasKey ys path key → HasKey (xs ++ ys) path key
has_back [] ys path key h = h
has_back (x ∷ xs) ys path key h = inr (has_back xs ys path key h)

-- ---- the first key at a path
pub key_at_has : (path : List ℕ) (xs : List Pointer) (key : PlainKey) → key_at path xs ≡ Some key → HasKey xs path key
key_at_has path [] key e = absurd (cc e)
key_at_has path (x ∷ xs) key e = by (bytes_eq x.path path) refl (key_at_has path xs key) e
  where
    by : (b : Bool) → bytes_eq x.path path ≡ b → (key_at path xs ≡ Some key → HasKey xs path key) → cond b (Some x.key) (key_at path xs) ≡ Some key → HasKey (x ∷ xs) path key
    by true same later is = inl ((bytes_eq-Decides x.path path).0 same, cc is)
    by false other later is = inr (later is)

pub has_key_at : (path : List ℕ) (xs : List Pointer) (key : PlainKey) → AreAscending xs → HasKey xs path key → key_at path xs ≡ Some key
has_key_at path [] key ascending h = absurd h
has_key_at path (x ∷ xs) key ascending (inl (is, of)) = ap (λ b. cond b (Some x.key) (key_at path xs)) ((bytes_eq-Decides x.path path).1 is) ∙ ap Some of
has_key_at path (x ∷ xs) key ascending (inr h) = by (bytes_eq x.path path) refl (has_key_at path xs key ascending.1 h)
  where
    by : (b : Bool) → bytes_eq x.path path ≡ b → key_at path xs ≡ Some key → cond b (Some x.key) (key_at path xs) ≡ Some key
    by true same later =
        let past : Below x.path path = has_path (λ p. Below x.path p) xs path key ascending.0 h in
        absurd (not_below_itself path (subst (λ (p : List ℕ). Below p path) ((bytes_eq-Decides x.path path).0 same) past))
    by false other later = later

-- ---- one list has these keys
below_both : (x y : List ℕ) → Below x y → Below y x → ⊥
below_both [] [] h k = h
below_both [] (b ∷ y) h k = k
below_both (a ∷ x) [] h k = h
below_both (a ∷ x) (b ∷ y) (inl less) (inl more) = omega (arith, less, more)
below_both (a ∷ x) (b ∷ y) (inl less) (inr (is, more)) = omega (arith, less, is)
below_both (a ∷ x) (b ∷ y) (inr (is, less)) (inl more) = omega (arith, is, more)
below_both (a ∷ x) (b ∷ y) (inr (is, less)) (inr (was, more)) = below_both x y less more

same_pointer : (x y : Pointer) → x.path ≡ y.path → x.key ≡ y.key → x ≡ y
same_pointer x y path key = (λ i. record { path = path i; key = key i })

first_same : (x y : Pointer) (xs ys : List Pointer) → EachPointer (λ q. Below x.path q.path) xs → EachPointer (λ q. Below y.path q.path) ys → HasKey (y ∷ ys) x.path x.key → HasKey (x ∷ xs) y.path y.key → x ≡ y
first_same x y xs ys past_x past_y (inl (path, key)) back = same_pointer x y (sym path) (sym key)
first_same x y xs ys past_x past_y (inr later) (inl (path, key)) = same_pointer x y path key
first_same x y xs ys past_x past_y (inr later) (inr after) =
    absurd (below_both y.path x.path (has_path (λ p. Below y.path p) ys x.path x.key past_y later) (has_path (λ p. Below x.path p) xs y.path y.key past_x after))

rest_has : (x : Pointer) (xs ys : List Pointer) → EachPointer (λ q. Below x.path q.path) xs → (path : List ℕ) (key : PlainKey) → (HasKey (x ∷ xs) path key → HasKey (x ∷ ys) path key) → HasKey xs path key → HasKey ys path key
rest_has x xs ys past path key f h = elim (f (inr h)) [
  | inl is ↦ absurd (not_below_itself path (subst (λ (p : List ℕ). Below p path) is.0 (has_path (λ p. Below x.path p) xs path key past h)))
  | inr more ↦ more
]

pub ascending_once : (xs ys : List Pointer) → AreAscending xs → AreAscending ys → ((path : List ℕ) (key : PlainKey) → HasKey xs path key ↔ HasKey ys path key) → xs ≡ ys
ascending_once [] [] one two same = refl
ascending_once [] (y ∷ ys) one two same = absurd ((same y.path y.key).1 (inl (refl, refl)))
ascending_once (x ∷ xs) [] one two same = absurd ((same x.path x.key).0 (inl (refl, refl)))
ascending_once (x ∷ xs) (y ∷ ys) one two same =
    let first : x ≡ y = first_same x y xs ys one.0 two.0 ((same x.path x.key).0 (inl (refl, refl))) ((same y.path y.key).1 (inl (refl, refl))) in
    let past : EachPointer (λ q. Below x.path q.path) ys = subst (λ (p : Pointer). EachPointer (λ q. Below p.path q.path) ys) (sym first) two.0 in
    let rest = ascending_once xs ys one.1 two.1 (λ path key. (
      rest_has x xs ys one.0 path key (λ h. subst (λ (p : Pointer). HasKey (p ∷ ys) path key) (sym first) ((same path key).0 h)),
      rest_has x ys xs past path key (λ h. (same path key).1 (subst (λ (p : Pointer). HasKey (p ∷ ys) path key) first h)),
    )) in
    (λ i. first i ∷ rest i)
