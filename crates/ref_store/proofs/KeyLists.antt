-- Two ascending lists of ids with the same members are one list.
use Rattle.std.proofs.Common.{◌≡◌, ℕ, Bool, true, false, ◌||◌, List, [], ◌∷◌, map, refl, sym, ap, ◌∙◌, subst}
use Rattle.std.specs.Prelude.{bytes_eq}
use Rattle.std.specs.Cmp.Lexicographic.{slice_cmp}
use Rattle.std.specs.FinMap.{nat_cmp-IsAntisymmetric, slice_cmp-IsAntisymmetric}
use Rattle.std.specs.List.{All, AllByRecursion, list_any}
use Rattle.std.specs.List.Sorted.{IsStrictlySortedBy}
use Rattle.std.specs.Ordering.{nat_cmp, is_eq, ordering_reverse}
use Rattle.std.specs.declared.cmp.Ordering.{Ordering}
use Rattle.std.specs.declared.cmp.Ordering.TheVariants.{Less, Equal, Greater}
use Rattle.std.proofs.lemmas.Cmp.{nat_list_cmp_total}
use Rattle.std.proofs.lemmas.List.Elements.{All-head, All-tail}
use Rattle.std.proofs.lemmas.Map.Text.{is_eq-slice_cmp}
use Rattle.std.proofs.lemmas.Slice.Eq.{bytes_eq-Decides}
use Rattle.git_objects.specs.declared.ids.Id.{Id}

abbrev order : List ℕ → List ℕ → Ordering
order x y = slice_cmp nat_cmp x y

abbrev member : List ℕ → List (List ℕ) → Bool
member k ks = list_any (λ x. bytes_eq x k) ks

pub less_other : (x y : List ℕ) → order x y ≡ Less → bytes_eq y x ≡ false
less_other x y less = by (bytes_eq y x) refl
  where
    by : (b : Bool) → bytes_eq y x ≡ b → bytes_eq y x ≡ false
    by true same =
        let e : y ≡ x = (bytes_eq-Decides y x).0 same in
        let no_less : bytes_eq x y ≡ false = sym (is_eq-slice_cmp x y) ∙ ap is_eq less in
        let both : bytes_eq x y ≡ true = (bytes_eq-Decides x y).1 (sym e) in
        absurd (cc (sym both ∙ no_less))
    by false differ = differ

none_after : (k : List ℕ) (ks : List (List ℕ)) → AllByRecursion (λ y. order k y ≡ Less) ks → member k ks ≡ false
none_after k [] all = refl
none_after k (y ∷ ks) all = (λ i. less_other k y all.0 i || member k ks) ∙ none_after k ks all.1

after_more : (x y : List ℕ) (ks : List (List ℕ)) → order x y ≡ Less → AllByRecursion (λ k. order y k ≡ Less) ks → AllByRecursion (λ k. order x k ≡ Less) ks
after_more x y [] h all = tt
after_more x y (z ∷ ks) h all = (nat_list_cmp_total.trans x y z h all.0, after_more x y ks h all.1)

first_in : (x : List ℕ) (xs : List (List ℕ)) → member x (x ∷ xs) ≡ true
first_in x xs = ap (λ (b : Bool). b || member x xs) ((bytes_eq-Decides x x).1 refl)

-- the least of one list is no less than that of another with the same members
not_before : (x y : List ℕ) (xs ys : List (List ℕ)) → order x y ≡ Less → AllByRecursion (λ k. order y k ≡ Less) ys → member x (x ∷ xs) ≡ member x (y ∷ ys) → ⊥
not_before x y xs ys less after e =
    let none : member x (y ∷ ys) ≡ false = (λ i. less_other x y less i || member x ys) ∙ none_after x ys (after_more x y ys less after) in
    absurd (cc (sym (first_in x xs) ∙ e ∙ none))

-- without the least of both they have the same members
tails : (P : List ℕ → Type 0) (x y : List ℕ) (xs ys : List (List ℕ)) → x ≡ y → AllByRecursion (λ k. order x k ≡ Less) xs → AllByRecursion (λ k. order y k ≡ Less) ys
    → ((k : List ℕ) → P k → member k (x ∷ xs) ≡ member k (y ∷ ys)) → (k : List ℕ) → P k → member k xs ≡ member k ys
tails P x y xs ys same after_x after_y e k p = by (bytes_eq x k) refl
  where
    by : (b : Bool) → bytes_eq x k ≡ b → member k xs ≡ member k ys
    by true is =
        let at : x ≡ k = (bytes_eq-Decides x k).0 is in
        let left : member k xs ≡ false = subst (λ (z : List ℕ). member z xs ≡ false) at (none_after x xs after_x) in
        let right : member k ys ≡ false = subst (λ (z : List ℕ). member z ys ≡ false) (sym same ∙ at) (none_after y ys after_y) in
        left ∙ sym right
    by false is =
        let other : bytes_eq y k ≡ false = ap (λ (z : List ℕ). bytes_eq z k) (sym same) ∙ is in
        (λ i. sym is i || member k xs) ∙ e k p ∙ (λ i. other i || member k ys)

greater_less : (x y : List ℕ) → order x y ≡ Greater → order y x ≡ Less
greater_less x y is = nat_list_cmp_total.antisymm y x ∙ ap ordering_reverse is

pub same_keys : (P : List ℕ → Type 0) (xs ys : List (List ℕ)) → IsStrictlySortedBy (slice_cmp nat_cmp) xs → IsStrictlySortedBy (slice_cmp nat_cmp) ys → AllByRecursion P xs → AllByRecursion P ys
    → ((k : List ℕ) → P k → member k xs ≡ member k ys) → xs ≡ ys
unfolding IsStrictlySortedBy
same_keys P [] [] sx sy px py e = refl
same_keys P [] (y ∷ ys) sx sy px py e = absurd (cc (e y py.0 ∙ first_in y ys))
same_keys P (x ∷ xs) [] sx sy px py e = absurd (cc (sym (e x px.0) ∙ first_in x xs))
same_keys P (x ∷ xs) (y ∷ ys) sx sy px py e = by (λ same. same_keys P xs ys sx.1 sy.1 px.1 py.1 (tails P x y xs ys same sx.0 sy.0 e)) (order x y) refl
  where
    by : (x ≡ y → xs ≡ ys) → (o : Ordering) → order x y ≡ o → x ∷ xs ≡ y ∷ ys
    by rest Less is = absurd (not_before x y xs ys is sy.0 (e x px.0))
    by rest Greater is = absurd (not_before y x ys xs (greater_less x y is) sx.0 (sym (e y py.0)))
    by rest Equal is =
        let same : x ≡ y = slice_cmp-IsAntisymmetric nat_cmp-IsAntisymmetric x y is in
        λ i. same i ∷ rest same i

-- ---- lists of ids

keys_any : (k : List ℕ) (ids : List Id) → member k (map (λ id. id.0) ids) ≡ list_any (λ found. bytes_eq found.0 k) ids
keys_any k [] = refl
keys_any k (id ∷ ids) = ap (λ (b : Bool). bytes_eq id.0 k || b) (keys_any k ids)

keys_all : (P : List ℕ → Type 0) (ids : List Id) → All (λ id. P id.0) ids → AllByRecursion P (map (λ id. id.0) ids)
keys_all P [] all = tt
keys_all P (id ∷ ids) all = (All-head (λ (i : Id). P i.0) id ids all, keys_all P ids (All-tail (λ (i : Id). P i.0) id ids all))

with_keys : List (List ℕ) → List Id
with_keys [] = []
with_keys (k ∷ ks) = (record { 0 = k }) ∷ with_keys ks

keys_back : (ids : List Id) → with_keys (map (λ id. id.0) ids) ≡ ids
unfolding with_keys
keys_back [] = refl
keys_back (id ∷ ids) = ap (λ (l : List Id). id ∷ l) (keys_back ids)

pub same_ids : (P : List ℕ → Type 0) (one two : List Id) → IsStrictlySortedBy (slice_cmp nat_cmp) (map (λ id. id.0) one) → IsStrictlySortedBy (slice_cmp nat_cmp) (map (λ id. id.0) two)
    → All (λ id. P id.0) one → All (λ id. P id.0) two → ((k : List ℕ) → P k → list_any (λ found. bytes_eq found.0 k) one ≡ list_any (λ found. bytes_eq found.0 k) two) → one ≡ two
same_ids P one two s t p q e =
    sym (keys_back one)
    ∙ ap with_keys (same_keys P (map (λ id. id.0) one) (map (λ id. id.0) two) s t (keys_all P one p) (keys_all P two q) (λ k pk. keys_any k one ∙ e k pk ∙ sym (keys_any k two)))
    ∙ keys_back two
