-- Sorted valid paths, of which none is above another, make valid trees.
use Rattle.std.proofs.Common.{◌≡◌, ℕ, Bool, true, not, ◌&&◌, inl, inr, List, [], ◌∷◌, ◌++◌, refl, sym, ap, subst, ◌∙◌, append_assoc, append-nil}
use Rattle.std.specs.Prelude.{◌⊎◌, bytes_eq}
use Rattle.std.specs.List.{list_all}
use Rattle.std.proofs.lemmas.Bool.{false_from_ne_true}
use Rattle.std.proofs.lemmas.Slice.Eq.{bytes_eq-Decides}
use Rattle.places.specs.All.{slash}
use Rattle.git_objects.specs.All.{is_entry, sorts_below, is_before, is_tree, sort_key}
use Rattle.git_objects.specs.declared.ids.Id.{Id}
use Rattle.git_objects.specs.declared.entries.TreeEntry.{TreeEntry}
use Rattle.git_objects.proofs.Parsing.{cut_once}
use Rattle.git_objects.proofs.Twins.{whole_name}
use Rattle.snapshot.specs.Leaves.{leaf_entry, dir_entry}
use Rattle.snapshot.specs.Dirs.{Dir, Empty, Item, Sub, entries_of, root_id, inside, listed}
use Rattle.snapshot.specs.Dirs.{paths_of, IsDense}
use Rattle.snapshot.specs.Builds.{IsSingle, LeavesDir, AreGrouped, below as below_path, all_below}
use Rattle.snapshot.specs.Builds.{IsGroup}
use Rattle.snapshot.specs.Order.{Below, Each, IsSorted, IsEntryName, IsValidPath, name, down, Has}
use Rattle.snapshot.specs.Order.{IsPathList}
use Rattle.snapshot.specs.declared.entries.Leaf.{Leaf}
use Rattle.snapshot.specs.declared.entries.Entry.{Entry}
use Rattle.snapshot.proofs.Once.{single_or_not, first_path}
use Rattle.snapshot.proofs.Order.{to_cmp, not_below_itself, shorter_below, behind_below, name_below_dir, dirs_below, between, leaf_key}

both : (a b : Bool) → a ≡ true → b ≡ true → (a && b) ≡ true
both a b h k = λ i. h i && k i

-- ---- entries that stand before one another
before_is : (e f : TreeEntry) → Below (sort_key e) (sort_key f) → (e.name ≡ f.name → ⊥) → is_before e f ≡ true
before_is e f below differ = both (sorts_below e f) (not (bytes_eq e.name f.name)) (to_cmp (sort_key e) (sort_key f) below) (ap not (false_from_ne_true (bytes_eq e.name f.name) (λ h. differ ((bytes_eq-Decides e.name f.name).0 h))))

later_than_leaf : (n : List ℕ) (l : Leaf) (m : Dir) (next : List Entry) → IsSingle n → IsDense m → AreGrouped m next → Each (λ f. Below n f.path) (paths_of m) → Each (λ f. (rest : List ℕ) → f.path ≡ n ++ slash ∷ rest → ⊥) (paths_of m)
    → list_all (is_before (leaf_entry n l)) (entries_of m) ≡ true
later_than_leaf n l Empty next single dense grouped above apart = refl
later_than_leaf n l (Item n' l' m) next single dense grouped above apart =
    let key = subst (λ (z : List ℕ). Below z (sort_key (leaf_entry n' l'))) (sym (leaf_key n l)) (subst (λ (z : List ℕ). Below n z) (sym (leaf_key n' l')) above.0) in
    both (is_before (leaf_entry n l) (leaf_entry n' l')) (list_all (is_before (leaf_entry n l)) (entries_of m))
    (before_is (leaf_entry n l) (leaf_entry n' l') key (λ same. not_below_itself n (subst (λ (z : List ℕ). Below n z) (sym same) above.0)))
    (later_than_leaf n l m next single dense grouped.1 above.1 apart.1)
later_than_leaf n l (Sub n' s m) next single dense grouped above apart =
    let d = dir_entry n' (record { 0 = root_id s }) in
    let f = first_path (inside [] n') s dense.0 dense.1 in
    let path : f.first.path ≡ n' ++ slash ∷ f.under.0 = f.under.1 ∙ append_assoc n' (slash ∷ []) f.under.0 in
    let own = (subst (λ (z : List Entry). Each (λ f. Below n f.path) (z ++ paths_of m)) f.split above).0 in
    let clash = (subst (λ (z : List Entry). Each (λ f. (rest : List ℕ) → f.path ≡ n ++ slash ∷ rest → ⊥) (z ++ paths_of m)) f.split apart).0 in
    let low = name_below_dir n n' f.under.0 single (subst (λ (z : List ℕ). Below n z) path own) in
    both (is_before (leaf_entry n l) d) (list_all (is_before (leaf_entry n l)) (entries_of m))
    (before_is (leaf_entry n l) d (subst (λ (z : List ℕ). Below z (n' ++ slash ∷ [])) (sym (leaf_key n l)) low) (λ same. clash f.under.0 (path ∙ ap (λ (z : List ℕ). z ++ slash ∷ f.under.0) (sym same))))
    (later_than_leaf n l m next single dense.2 grouped.2 (past_list _ (listed (inside [] n') s) (paths_of m) above) (past_list _ (listed (inside [] n') s) (paths_of m) apart))
  where
    past_list : (P : Entry → Type 0) (xs ys : List Entry) → Each P (xs ++ ys) → Each P ys
    past_list P [] ys h = h
    past_list P (x ∷ xs) ys h = past_list P xs ys h.1

past_each : (P : Entry → Type 0) (xs ys : List Entry) → Each P (xs ++ ys) → Each P ys
past_each P [] ys h = h
past_each P (x ∷ xs) ys h = past_each P xs ys h.1

later_than_dir : (n : List ℕ) (id : Id) (r : List ℕ) (m : Dir) (next : List Entry) → IsSingle n → IsDense m → AreGrouped m next → Each (λ f. Below (n ++ slash ∷ r) f.path) (paths_of m) → Each (λ f. n ≡ f.path → ⊥) (paths_of m)
    → Each (λ f. (rest : List ℕ) → f.path ≡ n ++ slash ∷ rest → ⊥) (paths_of m) → list_all (is_before (dir_entry n id)) (entries_of m) ≡ true
later_than_dir n id r Empty next single dense grouped above apart outside = refl
later_than_dir n id r (Item n' l' m) next single dense grouped above apart outside =
    let low = shorter_below (n ++ slash ∷ []) r n' (subst (λ (z : List ℕ). Below z n') (sym (append_assoc n (slash ∷ []) r)) above.0) in
    both (is_before (dir_entry n id) (leaf_entry n' l')) (list_all (is_before (dir_entry n id)) (entries_of m))
    (before_is (dir_entry n id) (leaf_entry n' l') (subst (λ (z : List ℕ). Below (n ++ slash ∷ []) z) (sym (leaf_key n' l')) low) apart.0)
    (later_than_dir n id r m next single dense grouped.1 above.1 apart.1 outside.1)
later_than_dir n id r (Sub n' s m) next single dense grouped above apart outside =
    let d = dir_entry n' (record { 0 = root_id s }) in
    let f = first_path (inside [] n') s dense.0 dense.1 in
    let path : f.first.path ≡ n' ++ slash ∷ f.under.0 = f.under.1 ∙ append_assoc n' (slash ∷ []) f.under.0 in
    let own = (subst (λ (z : List Entry). Each (λ f. Below (n ++ slash ∷ r) f.path) (z ++ paths_of m)) f.split above).0 in
    let out = (subst (λ (z : List Entry). Each (λ f. (rest : List ℕ) → f.path ≡ n ++ slash ∷ rest → ⊥) (z ++ paths_of m)) f.split outside).0 in
    let differ : n ≡ n' → ⊥ = λ same. out f.under.0 (path ∙ ap (λ (z : List ℕ). z ++ slash ∷ f.under.0) (sym same)) in
    let low = dirs_below n n' r f.under.0 single grouped.0 differ (subst (λ (z : List ℕ). Below (n ++ slash ∷ r) z) path own) in
    both (is_before (dir_entry n id) d) (list_all (is_before (dir_entry n id)) (entries_of m))
    (before_is (dir_entry n id) d low differ)
    (later_than_dir n id r m next single dense.2 grouped.2 (past_each _ (listed (inside [] n') s) (paths_of m) above) (past_each _ (listed (inside [] n') s) (paths_of m) apart) (past_each _ (listed (inside [] n') s) (paths_of m) outside))

-- no path after a directory's lies in it
all_outside : (n r : List ℕ) (list : List Entry) → LeavesDir n list → IsSorted list → Each (λ f. Below (n ++ slash ∷ r) f.path) list → Each (λ f. (rest : List ℕ) → f.path ≡ n ++ slash ∷ rest → ⊥) list
all_outside n r [] leaves sorted above = tt
all_outside n r (q ∷ list) leaves sorted above = (leaves, outside list sorted.0)
  where
    outside : (ys : List Entry) → Each (λ y. Below q.path y.path) ys → Each (λ f. (rest : List ℕ) → f.path ≡ n ++ slash ∷ rest → ⊥) ys
    outside [] h = tt
    outside (y ∷ ys) h = (
      λ rest e.
          let found = between (n ++ slash ∷ []) r rest q.path (subst (λ (z : List ℕ). Below z q.path) (sym (append_assoc n (slash ∷ []) r)) above.0)
          (subst (λ (z : List ℕ). Below q.path z) (e ∙ sym (append_assoc n (slash ∷ []) rest)) h.0) in
          leaves found.0 (found.1 ∙ append_assoc n (slash ∷ []) found.0),
      outside ys h.1,
    )

-- ---- names of valid paths
pub first_valid : (p n : List ℕ) → IsSingle n → IsValidPath p → (p ≡ n) ⊎ ((rest : List ℕ) × (p ≡ n ++ slash ∷ rest)) → IsEntryName n
first_valid _ n single (name p ok) (inl e) = subst IsEntryName e ok
first_valid _ n single (name p ok) (inr (rest, e)) = absurd (single_or_not p n rest (whole_name (dir_entry p (record { 0 = [] })) ok) e)
first_valid _ n single (down m q ok more) (inl e) = absurd (single_or_not n m q single (sym e))
first_valid _ n single (down m q ok more) (inr (rest, e)) = subst IsEntryName (cut_once slash m n q rest (whole_name (dir_entry m (record { 0 = [] })) ok) single e).0 ok

pub rest_valid : (p n rest : List ℕ) → IsSingle n → IsValidPath p → p ≡ n ++ slash ∷ rest → IsValidPath rest
rest_valid _ n rest single (name p ok) e = absurd (single_or_not p n rest (whole_name (dir_entry p (record { 0 = [] })) ok) e)
rest_valid _ n rest single (down m q ok more) e = subst IsValidPath (cut_once slash m n q rest (whole_name (dir_entry m (record { 0 = [] })) ok) single e).1 more

name_of_leaf : (n : List ℕ) (l : Leaf) → IsEntryName n → is_entry (leaf_entry n l) ≡ true
unfolding is_entry
name_of_leaf n l h = h

name_of_dir : (n : List ℕ) (id : Id) → IsEntryName n → is_entry (dir_entry n id) ≡ true
unfolding is_entry
name_of_dir n id h = h

-- ---- members of a list
pub has_front : (xs ys : List Entry) (e : Entry) → Has xs e → Has (xs ++ ys) e
has_front [] ys e h = absurd h
has_front (x ∷ xs) ys e (inl h) = inl h
has_front (x ∷ xs) ys e (inr h) = inr (has_front xs ys e h)

pub has_back : (xs ys : List Entry) (e : Entry) → Has ys e → Has (xs ++ ys) e
has_back [] ys e h = h
has_back (x ∷ xs) ys e h = inr (has_back xs ys e h)

each_has : (P : Entry → Type 0) (list : List Entry) → ((e : Entry) → Has list e → P e) → Each P list
each_has P [] h = tt
each_has P (e ∷ es) h = (h e (inl refl), each_has P es (λ f k. h f (inr k)))

sorted_back : (xs ys : List Entry) → IsSorted (xs ++ ys) → IsSorted ys
sorted_back [] ys h = h
sorted_back (x ∷ xs) ys h = sorted_back xs ys h.1

sorted_front : (xs ys : List Entry) → IsSorted (xs ++ ys) → IsSorted xs
sorted_front [] ys h = tt
sorted_front (x ∷ xs) ys h = (front xs h.0, sorted_front xs ys h.1)
  where
    front : (zs : List Entry) → Each (λ y. Below x.path y.path) (zs ++ ys) → Each (λ y. Below x.path y.path) zs
    front [] k = tt
    front (z ∷ zs) k = (k.0, front zs k.1)

front_each : (P : Entry → Type 0) (xs ys : List Entry) → Each P (xs ++ ys) → Each P xs
front_each P [] ys h = tt
front_each P (x ∷ xs) ys h = (h.0, front_each P xs ys h.1)

-- the end of a list of paths is one
pub back_list : (xs ys : List Entry) → IsPathList (xs ++ ys) → IsPathList ys
back_list xs ys h = record {
  sorted = sorted_back xs ys h.sorted;
  valid = past_each (λ e. IsValidPath e.path) xs ys h.valid;
  apart = λ e f rest k j. h.apart e f rest (has_back xs ys e k) (has_back xs ys f j);
}

front_list : (xs ys : List Entry) → IsPathList (xs ++ ys) → IsPathList xs
front_list xs ys h = record {
  sorted = sorted_front xs ys h.sorted;
  valid = front_each (λ e. IsValidPath e.path) xs ys h.valid;
  apart = λ e f rest k j. h.apart e f rest (has_front xs ys e k) (has_front xs ys f j);
}

-- ---- the tree of a list of paths
pub tree_of_paths : (dir : Dir) (next : List Entry) → IsDense dir → AreGrouped dir next → next ≡ [] → IsPathList (paths_of dir) → is_tree (entries_of dir) ≡ true
tree_of_paths Empty next dense grouped end list = refl
tree_of_paths (Item n l m) next dense grouped end list =
    let self : Entry = record { path = n; leaf = l } in
    let more = tree_of_paths m next dense grouped.1 end (back_list (self ∷ []) (paths_of m) list) in
    let apart = each_has (λ f. (rest : List ℕ) → f.path ≡ n ++ slash ∷ rest → ⊥) (paths_of m) (λ f k rest e. list.apart self f rest (inl refl) (inr k) e) in
    both (is_entry (leaf_entry n l) && list_all (is_before (leaf_entry n l)) (entries_of m)) (is_tree (entries_of m))
    (both (is_entry (leaf_entry n l)) (list_all (is_before (leaf_entry n l)) (entries_of m)) (name_of_leaf n l (first_valid n n grouped.0 list.valid.0 (inl refl))) (later_than_leaf n l m next grouped.0 dense grouped.1 list.sorted.0 apart))
    more
tree_of_paths (Sub n s m) next dense grouped end list =
    let id : Id = record { 0 = root_id s } in
    let own = listed (inside [] n) s in
    let f = first_path (inside [] n) s dense.0 dense.1 in
    let path : f.first.path ≡ n ++ slash ∷ f.under.0 = f.under.1 ∙ append_assoc n (slash ∷ []) f.under.0 in
    let rest = back_list own (paths_of m) list in
    let more = tree_of_paths m next dense.2 grouped.2 end rest in
    let sorted = subst (λ (z : List Entry). IsSorted (z ++ paths_of m)) f.split list.sorted in
    let above = subst (λ (z : List ℕ). Each (λ y. Below z y.path) (paths_of m)) path (past_each (λ y. Below f.first.path y.path) f.rest (paths_of m) sorted.0) in
    let leaves = subst (λ (z : List Entry). LeavesDir n z) (ap (λ (z : List Entry). paths_of m ++ z) end ∙ append-nil (paths_of m)) grouped.1 in
    let outside = all_outside n f.under.0 (paths_of m) leaves rest.sorted above in
    let there : Has (own ++ paths_of m) f.first = subst (λ (z : List Entry). Has (z ++ paths_of m) f.first) (sym f.split) (inl refl) in
    let apart = each_has (λ y. n ≡ y.path → ⊥) (paths_of m) (λ y k e. list.apart y f.first f.under.0 (has_back own (paths_of m) y k) there (path ∙ ap (λ (z : List ℕ). z ++ slash ∷ f.under.0) e)) in
    let valid = (subst (λ (z : List Entry). Each (λ e. IsValidPath e.path) (z ++ paths_of m)) f.split list.valid).0 in
    both (is_entry (dir_entry n id) && list_all (is_before (dir_entry n id)) (entries_of m)) (is_tree (entries_of m))
    (both (is_entry (dir_entry n id)) (list_all (is_before (dir_entry n id)) (entries_of m)) (name_of_dir n id (first_valid f.first.path n grouped.0 valid (inr (f.under.0, path))))
    (later_than_dir n id f.under.0 m next grouped.0 dense.2 grouped.2 above apart outside))
    more

-- ---- a directory's part of a list
part_sorted : (q : List ℕ) (part : List Entry) → IsSorted (all_below q part) → IsSorted part
part_sorted q [] h = tt
part_sorted q (x ∷ part) h = (up part h.0, part_sorted q part h.1)
  where
    up : (ys : List Entry) → Each (λ y. Below (q ++ x.path) y.path) (all_below q ys) → Each (λ y. Below x.path y.path) ys
    up [] k = tt
    up (y ∷ ys) k = (behind_below q x.path y.path k.0, up ys k.1)

part_has : (q : List ℕ) (part : List Entry) (e : Entry) → Has part e → Has (all_below q part) (below_path q e)
part_has q [] e h = absurd h
part_has q (x ∷ part) e (inl h) = inl (ap (below_path q) h)
part_has q (x ∷ part) e (inr h) = inr (part_has q part e h)

part_valid : (n : List ℕ) (part : List Entry) → IsSingle n → Each (λ e. IsValidPath e.path) (all_below (n ++ slash ∷ []) part) → Each (λ e. IsValidPath e.path) part
part_valid n [] single h = tt
part_valid n (x ∷ part) single h = (rest_valid _ n x.path single h.0 (append_assoc n (slash ∷ []) x.path), part_valid n part single h.1)

pub part_list : (n : List ℕ) (list part : List Entry) → IsSingle n → IsGroup n list part → IsPathList list → IsPathList part
part_list n list part single group h =
    let q = n ++ slash ∷ [] in
    let own = front_list (all_below q part) group.after (subst IsPathList group.split h) in
    record {
      sorted = part_sorted q part own.sorted;
      valid = part_valid n part single own.valid;
      apart = λ e f rest k j same.
          own.apart (below_path q e) (below_path q f) rest (part_has q part e k) (part_has q part f j) (ap (λ (z : List ℕ). q ++ z) same ∙ sym (append_assoc q e.path (slash ∷ rest)));
    }
