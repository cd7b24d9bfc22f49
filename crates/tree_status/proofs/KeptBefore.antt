-- How a path was kept before: its leaf, its key and its blob.
use Rattle.std.proofs.Common.{◌≡◌, ℕ, zero, suc, ◌+◌, ◌<◌, ◌≤◌, true, false, cond, inl, inr, ◌⊎◌, List, [], ◌∷◌, length, get_or, Option, Some, None, Err, refl, sym, ap, subst, ◌∙◌, arith}
use Rattle.std.specs.Prelude.{IsSome, MatchOption, bytes_eq, option_map}
use Rattle.std.specs.Borrow.{Bor}
use Rattle.std.specs.Option.{option_copied}
use Rattle.std.specs.declared.cmp.Ordering.{Ordering}
use Rattle.std.specs.declared.cmp.Ordering.TheVariants.{Less, Equal, Greater}
use Rattle.std.specs.Cmp.Lexicographic.{slice_cmp}
use Rattle.std.specs.List.Sorted.{IsBinarySearchResult, IsSortedBy}
use Rattle.std.specs.Ordering.{nat_cmp, is_lt, is_eq, ordering_reverse}
use Rattle.std.proofs.lemmas.Bool.{cases_lt, false_from_ne_true, false≢true}
use Rattle.std.proofs.lemmas.Cmp.{nat_list_cmp_total}
use Rattle.std.proofs.lemmas.List.Sorted.{searchable_from_sorted}
use Rattle.std.proofs.lemmas.Map.Text.{is_eq-slice_cmp}
use Rattle.std.proofs.lemmas.Slice.Eq.{bytes_eq-Decides}
use Rattle.annex_keys.specs.All.{PlainKey}
use Rattle.git_objects.specs.declared.ids.Id.{Id}
use Rattle.kept_files.specs.All.{Stays, leaf_id}
use Rattle.kept_files.specs.declared.kept.Kept.{Kept}
use Rattle.kept_files.specs.declared.kept.Kept.TheVariants.{Same, InGit, Pointer as PointerText, Content}
use Rattle.snapshot.specs.All.{AreAscending, AreOfFiles, Below, Each, EachPointer, Has, HasFile, HasKey, HasLeaf, IsOrdered, IsSorted, LacksPath, key_at}
use Rattle.snapshot.specs.declared.entries.Entry.{Entry}
use Rattle.snapshot.specs.declared.entries.Leaf.{Leaf}
use Rattle.snapshot.specs.declared.entries.Leaf.TheVariants.{Git, Link, Pin}
use Rattle.snapshot.specs.declared.pointing.Pointer.{Pointer}
use Rattle.snapshot.proofs.Ascending.{has_key_at, key_at_has}
use Rattle.snapshot.proofs.Order.{to_cmp}
use Rattle.tree_status.specs.Keeping.{IsKeptBy, KeepBy, blob_in, leaf_at, old_blob, old_key}

-- ---- a leaf by its path
pub below_other : (x y : List ℕ) → Below x y → x ≡ y → ⊥
below_other [] [] h e = h
below_other [] (b ∷ y) h e = cc e
below_other (a ∷ x) [] h e = h
below_other (a ∷ x) (b ∷ y) (inl lt) e = first a b lt (cc e)
  where
    first : (a b : ℕ) → a < b → a ≡ b → ⊥
    first a b lt e = omega arith
below_other (a ∷ x) (b ∷ y) (inr more) e = below_other x y more.1 (cc e)

each_has : (P : Entry → Type 0) (list : List Entry) (e : Entry) → Each P list → Has list e → P e
each_has P [] e all has = absurd has
each_has P (x ∷ xs) e all (inl same) = subst P same all.0
each_has P (x ∷ xs) e all (inr has) = each_has P xs e all.1 has

pub leaf_of_has : (list : List Entry) (path : List ℕ) (leaf : Leaf) → IsSorted list → HasLeaf list path leaf → leaf_at path list ≡ Some leaf
leaf_of_has [] path leaf sorted has = absurd has
leaf_of_has (x ∷ xs) path leaf sorted (inl same) =
    let at : x.path ≡ path = ap (λ (e : Entry). e.path) same in
    ap (λ b. cond b (Some x.leaf) (leaf_at path xs)) ((bytes_eq-Decides x.path path).1 at) ∙ ap (λ (e : Entry). Some e.leaf) same
leaf_of_has (x ∷ xs) path leaf sorted (inr has) =
    let below : Below x.path path = each_has (λ f. Below x.path f.path) xs (record { path = path; leaf = leaf }) sorted.0 has in
    let other : bytes_eq x.path path ≡ false = false_from_ne_true _ (λ t. below_other x.path path below ((bytes_eq-Decides x.path path).0 t)) in
    ap (λ b. cond b (Some x.leaf) (leaf_at path xs)) other ∙ leaf_of_has xs path leaf sorted.1 has

pub no_leaf : (list : List Entry) (path : List ℕ) → LacksPath list path → leaf_at path list ≡ None
no_leaf [] path lacks = refl
no_leaf (x ∷ xs) path lacks =
    let other : bytes_eq x.path path ≡ false = false_from_ne_true _ (λ t. lacks x.leaf (inl (λ i. record { path = (bytes_eq-Decides x.path path).0 t i; leaf = x.leaf }))) in
    ap (λ b. cond b (Some x.leaf) (leaf_at path xs)) other ∙ no_leaf xs path (λ leaf has. lacks leaf (inr has))

pub leaf_is : (list : List Entry) (path : List ℕ) (found : Option (Bor Leaf)) → IsOrdered list → MatchOption found (LacksPath list path) (λ leaf. HasLeaf list path leaf.now) → option_copied found ≡ leaf_at path list
leaf_is list path None ordered lacks = sym (no_leaf list path lacks)
leaf_is list path (Some leaf) ordered has = sym (leaf_of_has list path leaf.now ordered.sorted has)

-- ---- pointers by their index
record PointerAt (list : List Pointer) (path : List ℕ) : Type 0 where
  k : ℕ
  pointer : Pointer
  within : k < length list
  at : (d : Pointer) → get_or list k d ≡ pointer
  is : pointer.path ≡ path

pointer_of : (list : List Pointer) (path : List ℕ) (key : PlainKey) → HasKey list path key → PointerAt list path
pointer_of [] path key has = absurd has
pointer_of (x ∷ list) path key (inl is) = record { k = 0; pointer = x; within = omega arith; at = λ d. refl; is = is.0 }
pointer_of (x ∷ list) path key (inr has) =
    let p = pointer_of list path key has in
    record { k = suc p.k; pointer = p.pointer; within = omega (arith, p.within); at = p.at; is = p.is }

has_at : (list : List Pointer) (k : ℕ) (d : Pointer) → k < length list → HasKey list (get_or list k d).path (get_or list k d).key
has_at [] k d lt = absurd (omega arith)
has_at (x ∷ list) zero d lt = inl (refl, refl)
has_at (x ∷ list) (suc k) d lt = inr (has_at list k d (omega arith))

each_at : (P : Pointer → Type 0) (list : List Pointer) (k : ℕ) (d : Pointer) → EachPointer P list → k < length list → P (get_or list k d)
each_at P [] k d each lt = absurd (omega arith)
each_at P (x ∷ list) zero d each lt = each.0
each_at P (x ∷ list) (suc k) d each lt = each_at P list k d each.1 (omega arith)

above_at : (list : List Pointer) (i j : ℕ) (d : Pointer) → AreAscending list → i < j → j < length list → Below (get_or list i d).path (get_or list j d).path
above_at [] i j d ascending lt within = absurd (omega arith)
above_at (x ∷ list) i zero d ascending lt within = absurd (omega arith)
above_at (x ∷ list) zero (suc j) d ascending lt within = each_at (λ q. Below x.path q.path) list j d ascending.0 (omega arith)
above_at (x ∷ list) (suc i) (suc j) d ascending lt within = above_at list i j d ascending.1 (omega arith) (omega arith)

-- ---- the search for a key
not_back : (x y : List ℕ) (o : Ordering) → slice_cmp nat_cmp x y ≡ o → is_lt o ≡ true → is_lt (slice_cmp nat_cmp y x) ≡ false
not_back x y Less e h = ap is_lt (nat_list_cmp_total.antisymm y x ∙ ap ordering_reverse e)
not_back x y Equal e h = cc h
not_back x y Greater e h = cc h

sorted_by : (list : List Pointer) → AreAscending list → IsSortedBy (λ a b. is_lt (slice_cmp nat_cmp a.path b.path)) list
sorted_by list ascending k d low lt =
    not_back (get_or list k d).path (get_or list (k + 1) d).path _ refl (to_cmp (get_or list k d).path (get_or list (k + 1) d).path (above_at list k (k + 1) d ascending (omega arith) lt))

abbrev pub order_by : List ℕ → Pointer → Ordering
order_by path pointer = slice_cmp nat_cmp pointer.path path

pub key_found : (list : List Pointer) (path : List ℕ) (i : ℕ) (d : Pointer) → AreAscending list → i < length list → order_by path (get_or list i d) ≡ Equal → Some (get_or list i d).key ≡ key_at path list
key_found list path i d ascending lt order =
    let x = get_or list i d in
    let same : x.path ≡ path = (bytes_eq-Decides x.path path).0 (sym (is_eq-slice_cmp x.path path) ∙ ap is_eq order) in
    sym (has_key_at path list x.key ascending (subst (λ (z : List ℕ). HasKey list z x.key) same (has_at list i d lt)))

none_there : (list : List Pointer) (path : List ℕ) (i : ℕ) → AreAscending list → IsBinarySearchResult (order_by path) list (Err i) → PointerAt list path → ⊥
none_there list path i ascending found p = by (cases_lt p.k i)
  where
    same : is_eq (order_by path p.pointer) ≡ true
    same = is_eq-slice_cmp p.pointer.path path ∙ (bytes_eq-Decides p.pointer.path path).1 p.is

    by : (p.k < i) ⊎ (i ≤ p.k) → ⊥
    by (inl low) =
        let point = found (searchable_from_sorted nat_list_cmp_total (λ (z : Pointer). z.path) list path (sorted_by list ascending)) in
        let less = point.0 p.k p.pointer (omega (arith, p.within)) low in
        false≢true (sym (ap is_eq (sym (ap (order_by path) (p.at p.pointer)) ∙ less)) ∙ same)
    by (inr high) =
        let point = found (searchable_from_sorted nat_list_cmp_total (λ (z : Pointer). z.path) list path (sorted_by list ascending)) in
        let more = point.1 p.k p.pointer high p.within in
        false≢true (sym (ap is_eq (sym (ap (order_by path) (p.at p.pointer)) ∙ more)) ∙ same)

pub no_key_found : (list : List Pointer) (path : List ℕ) (i : ℕ) → AreAscending list → IsBinarySearchResult (order_by path) list (Err i) → None ≡ key_at path list
no_key_found list path i ascending found = by (key_at path list) refl
  where
    by : (key : Option PlainKey) → key_at path list ≡ key → None ≡ key
    by None e = refl
    by (Some key) e = absurd (none_there list path i ascending found (pointer_of list path key (key_at_has path list key e)))

-- ---- the blob of a leaf that stays
blob_of_file : (list : List Entry) (path : List ℕ) → IsSorted list → HasFile list path → (id : Id) × (blob_in (leaf_at path list) ≡ Some id)
blob_of_file list path sorted (Git id exec, has, is) = (id, ap blob_in (leaf_of_has list path (Git id exec) sorted has))
blob_of_file list path sorted (Link id, has, is) = absurd is
blob_of_file list path sorted (Pin id, has, is) = absurd is

blob_of_key : (by : KeepBy) (path : List ℕ) (key : PlainKey) → IsSorted by.old → AreOfFiles by.old by.pointers → old_key by path ≡ Some key → (id : Id) × (old_blob by path ≡ Some id)
blob_of_key by path key sorted are e =
    let p = pointer_of by.pointers path key (key_at_has path by.pointers key e) in
    let file : HasFile by.old p.pointer.path = subst (λ (q : Pointer). HasFile by.old q.path) (p.at p.pointer) (each_at (λ q. HasFile by.old q.path) by.pointers p.k p.pointer are.files p.within) in
    blob_of_file by.old path sorted (subst (HasFile by.old) p.is file)

blob_that_stays : (blob : Option Id) (key : Option PlainKey) (bytes : List ℕ) → ((k : PlainKey) → key ≡ Some k → (id : Id) × (blob ≡ Some id)) → Stays blob key bytes → (id : Id) × (blob ≡ Some id)
blob_that_stays blob (Some key) bytes annexed stays = annexed key refl
blob_that_stays (Some id) None bytes annexed stays = (id, refl)
blob_that_stays None None bytes annexed stays = absurd stays

-- the new leaf has a blob
pub has_leaf_id : (by : KeepBy) (path bytes : List ℕ) (kept : Kept) → IsSorted by.old → AreOfFiles by.old by.pointers → IsKeptBy by path bytes kept → (id : List ℕ) × (leaf_id kept (old_blob by path) bytes ≡ Some id)
has_leaf_id by path bytes (Same is_content) sorted are kept =
    let blob = blob_that_stays (old_blob by path) (old_key by path) bytes (λ key e. blob_of_key by path key sorted are e) kept.0 in
    (blob.0.0, ap (λ (b : Option Id). leaf_id (Same is_content) b bytes) blob.1)
has_leaf_id by path bytes InGit sorted are kept = (_, refl)
has_leaf_id by path bytes (PointerText text) sorted are kept = (_, refl)
has_leaf_id by path bytes (Content text key) sorted are kept = (_, refl)

pub is_some_id : (found : Option Id) (leaf : Option (List ℕ)) → option_map (λ (id : Id). id.0) found ≡ leaf → (id : List ℕ) × (leaf ≡ Some id) → IsSome found
is_some_id None leaf e has = absurd (cc (e, has.1))
is_some_id (Some id) leaf e has = refl
