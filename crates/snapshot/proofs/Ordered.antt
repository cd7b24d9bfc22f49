-- The tests of paths: that each is valid, and that they ascend.
use Rattle.std.proofs.Common.{◌≡◌, ℕ, suc, ◌+◌, ◌<◌, ◌≤◌, Bool, true, false, IsTrue, inl, inr, List, [], ◌∷◌, ◌++◌, length, get_or, Err, refl, sym, ap, subst, ◌∙◌, arith}
use Rattle.std.specs.Prelude.{◌↔◌, ◌⊎◌}
use Rattle.std.specs.declared.cmp.Ordering.{Ordering}
use Rattle.std.specs.declared.cmp.Ordering.TheVariants.{Less, Equal, Greater}
use Rattle.std.specs.Cmp.Lexicographic.{slice_cmp}
use Rattle.std.specs.List.{IsAllAdjacentAnswer}
use Rattle.std.specs.List.Sorted.{IsBinarySearchResult, IsSortedBy}
use Rattle.std.specs.Ordering.{nat_cmp, is_lt, is_eq, ordering_reverse}
use Rattle.std.proofs.lemmas.Bool.{cases_lt, false≢true}
use Rattle.std.proofs.lemmas.Cmp.{nat_list_cmp_total}
use Rattle.std.proofs.lemmas.List.Sorted.{searchable_from_sorted}
use Rattle.std.proofs.lemmas.Map.Text.{is_eq-slice_cmp}
use Rattle.std.proofs.lemmas.Slice.Eq.{bytes_eq-Decides}
use Rattle.places.specs.All.{slash}
use Rattle.snapshot.specs.Builds.{IsSingle}
use Rattle.snapshot.specs.Order.{Below, Each, IsSorted, IsEntryName, is_entry_name, IsValidPath}
use Rattle.snapshot.specs.Order.{name, down, Has, HasLeaf, LacksPath}
use Rattle.snapshot.specs.declared.entries.Entry.{Entry}
use Rattle.snapshot.proofs.Apart.{below_trans, Place, place_of, has_at, each_get, sorted_at}
use Rattle.snapshot.proofs.Order.{from_cmp, to_cmp}
use Rattle.snapshot.proofs.Valid.{first_valid}

-- ---- one name after the other
pub step_back : (path rest n more : List ℕ) → rest ≡ n ++ slash ∷ more → IsEntryName n → (IsValidPath rest → IsValidPath path) → IsValidPath more → IsValidPath path
step_back path rest n more e ok back valid = back (subst IsValidPath (sym e) (down n more ok valid))

pub bad_name : (path rest n more : List ℕ) → IsSingle n → rest ≡ n ++ slash ∷ more → is_entry_name n ≡ false → (IsValidPath path → IsValidPath rest) → IsTrue false ↔ IsValidPath path
bad_name path rest n more single e bad on = (λ t. cc t, λ valid. absurd (false≢true (sym bad ∙ first_valid rest n single (on valid) (inr (more, e)))))

pub last_name : (path rest : List ℕ) (r : Bool) → IsSingle rest → r ≡ is_entry_name rest → (IsValidPath rest → IsValidPath path) → (IsValidPath path → IsValidPath rest) → IsTrue r ↔ IsValidPath path
last_name path rest r single is back on = (λ t. back (name rest (sym is ∙ t)), λ valid. is ∙ first_valid rest rest single (on valid) (inl refl))

-- ---- each of a list
pub each_front : (P : Entry → Type 0) (xs ys : List Entry) → Each P xs → Each P ys → Each P (xs ++ ys)
each_front P [] ys h k = k
each_front P (x ∷ xs) ys h k = (h.0, each_front P xs ys h.1 k)

pub not_each : (P : Entry → Type 0) (list : List Entry) (k : ℕ) (x : Entry) → k < length list → x ≡ get_or list k x → (P x → ⊥) → IsTrue false ↔ Each P list
not_each P list k x lt is bad = (λ t. cc t, λ all. absurd (bad (subst P (sym is) (each_get P list k x all lt))))

-- ---- ascending
abbrev pub below : Entry → Entry → Bool
below one next = is_lt (slice_cmp nat_cmp one.path next.path)

each_after : (x y : List ℕ) (list : List Entry) → Below x y → Each (λ f. Below y f.path) list → Each (λ f. Below x f.path) list
each_after x y [] h k = tt
each_after x y (e ∷ es) h k = (below_trans x y e.path h k.0, each_after x y es h k.1)

adjacent_sorted : (list : List Entry) → ((k : ℕ) (d : Entry) → k + 1 < length list → Below (get_or list k d).path (get_or list (k + 1) d).path) → IsSorted list
adjacent_sorted [] h = tt
adjacent_sorted (x ∷ []) h = (tt, tt)
adjacent_sorted (x ∷ y ∷ list) h =
    let rest = adjacent_sorted (y ∷ list) (λ k d lt.
    let e : suc k + 1 ≡ suc (k + 1) = omega arith in
    subst (λ (n : ℕ). Below (get_or (y ∷ list) k d).path (get_or (x ∷ y ∷ list) n d).path) e (h (suc k) d (omega arith))) in
    let first : Below x.path y.path = h 0 x (omega arith) in
    ((first, each_after x.path y.path list first rest.0), rest)

pub ascending_answer : (list : List Entry) (r : Bool) → IsAllAdjacentAnswer (λ x y b. b ≡ below x y) list r → IsTrue r ↔ IsSorted list
ascending_answer list true h = (λ t. adjacent_sorted list (λ k d lt. from_cmp (get_or list k d).path (get_or list (k + 1) d).path (sym (h k d lt))), λ sorted. refl)
ascending_answer [] false h = (λ t. cc t, λ sorted. absurd (omega (arith, h.1)))
ascending_answer (e ∷ es) false h = (
  λ t. cc t,
  λ sorted. absurd (false≢true (h.2 e ∙ to_cmp (get_or (e ∷ es) h.0 e).path (get_or (e ∷ es) (h.0 + 1) e).path (sorted_at (e ∷ es) h.0 (h.0 + 1) e sorted (omega arith) h.1))),
)

-- ---- a search
not_back : (x y : List ℕ) (o : Ordering) → slice_cmp nat_cmp x y ≡ o → is_lt o ≡ true → is_lt (slice_cmp nat_cmp y x) ≡ false
not_back x y Less e h = ap is_lt (nat_list_cmp_total.antisymm y x ∙ ap ordering_reverse e)
not_back x y Equal e h = cc h
not_back x y Greater e h = cc h

sorted_by : (list : List Entry) → IsSorted list → IsSortedBy (λ a b. is_lt (slice_cmp nat_cmp a.path b.path)) list
sorted_by list h k d low lt =
    not_back (get_or list k d).path (get_or list (k + 1) d).path _ refl (to_cmp (get_or list k d).path (get_or list (k + 1) d).path (sorted_at list k (k + 1) d h (omega arith) lt))

abbrev pub order_by : List ℕ → Entry → Ordering
order_by path entry = slice_cmp nat_cmp entry.path path

pub leaf_found : (list : List Entry) (path : List ℕ) (i : ℕ) (d : Entry) → i < length list → order_by path (get_or list i d) ≡ Equal → HasLeaf list path (get_or list i d).leaf
leaf_found list path i d lt order =
    let x = get_or list i d in
    let same : x.path ≡ path = (bytes_eq-Decides x.path path).0 (sym (is_eq-slice_cmp x.path path) ∙ ap is_eq order) in
    subst (λ (z : List ℕ). Has list (record { path = z; leaf = x.leaf })) same (has_at list i d lt)

pub none_found : (list : List Entry) (path : List ℕ) (i : ℕ) → IsSorted list → IsBinarySearchResult (order_by path) list (Err i) → LacksPath list path
none_found list path i sorted found leaf has = by (cases_lt p.k i)
  where
    e : Entry
    e = record { path = path; leaf = leaf }

    p : Place list e
    p = place_of list e has

    same : is_eq (order_by path e) ≡ true
    same = is_eq-slice_cmp path path ∙ (bytes_eq-Decides path path).1 refl

    by : (p.k < i) ⊎ (i ≤ p.k) → ⊥
    by (inl low) =
        let point = found (searchable_from_sorted nat_list_cmp_total (λ (z : Entry). z.path) list path (sorted_by list sorted)) in
        let less = point.0 p.k e (omega (arith, p.within)) low in
        false≢true (sym (ap is_eq (sym (ap (order_by path) (p.at e)) ∙ less)) ∙ same)
    by (inr high) =
        let point = found (searchable_from_sorted nat_list_cmp_total (λ (z : Entry). z.path) list path (sorted_by list sorted)) in
        let more = point.1 p.k e high p.within in
        false≢true (sym (ap is_eq (sym (ap (order_by path) (p.at e)) ∙ more)) ∙ same)
