-- A valid directory's paths are sorted and valid, and none is above another.
use Rattle.std.proofs.Common.{◌≡◌, ℕ, true, inl, inr, List, [], ◌∷◌, ◌++◌, refl, sym, ap, subst, ◌∙◌, append_assoc}
use Rattle.std.specs.Prelude.{◌⊎◌}
use Rattle.std.proofs.lemmas.List.{append_cancel_left}
use Rattle.places.specs.All.{slash}
use Rattle.git_objects.specs.All.{is_entry}
use Rattle.git_objects.proofs.Parsing.{cut_once, tree_parts}
use Rattle.snapshot.specs.Leaves.{leaf_entry, dir_entry}
use Rattle.snapshot.specs.Dirs.{Dir, Empty, Item, Sub, entries_of, root_id, inside, listed}
use Rattle.snapshot.specs.Dirs.{paths_of, IsDir}
use Rattle.snapshot.specs.Builds.{IsSingle, all_below}
use Rattle.snapshot.specs.Order.{Each, IsEntryName, IsValidPath, name, down, Has, HasNoClash}
use Rattle.snapshot.specs.Order.{IsPathList}
use Rattle.snapshot.specs.declared.entries.Leaf.{Leaf}
use Rattle.snapshot.specs.declared.entries.Entry.{Entry}
use Rattle.snapshot.proofs.Once.{Under, Apart, Each-append, Each-weaker, all_under, none_under, single_or_not, first_parts}
use Rattle.snapshot.proofs.Trees.{listed-below}
use Rattle.snapshot.proofs.Sorted.{sorted_paths}

leaf_name : (n : List ℕ) (l : Leaf) → is_entry (leaf_entry n l) ≡ true → IsEntryName n
unfolding is_entry
leaf_name n l h = h

dir_name : (n id : List ℕ) → is_entry (dir_entry n (record { 0 = id })) ≡ true → IsEntryName n
unfolding is_entry
dir_name n id h = h

-- ---- valid
valid_below : (n : List ℕ) (list : List Entry) → IsEntryName n → Each (λ e. IsValidPath e.path) list → Each (λ e. IsValidPath e.path) (all_below (n ++ slash ∷ []) list)
valid_below n [] ok h = tt
valid_below n (e ∷ list) ok h = (subst IsValidPath (sym (append_assoc n (slash ∷ []) e.path)) (down n e.path ok h.0), valid_below n list ok h.1)

valid_paths : (dir : Dir) → IsDir dir → Each (λ e. IsValidPath e.path) (paths_of dir)
valid_paths Empty valid = tt
valid_paths (Item n l m) valid =
    let parts = tree_parts (leaf_entry n l) (entries_of m) valid.0.valid in
    let first = first_parts (leaf_entry n l) m valid.0.stored valid.0.valid in
    (name n (leaf_name n l parts.named), valid_paths m (first.tree, valid.1))
valid_paths (Sub n s m) valid =
    let d = dir_entry n (record { 0 = root_id s }) in
    let parts = tree_parts d (entries_of m) valid.0.valid in
    let first = first_parts d m valid.0.stored valid.0.valid in
    Each-append (λ e. IsValidPath e.path) (listed (inside [] n) s) (paths_of m)
    (subst (Each (λ e. IsValidPath e.path)) (sym (listed-below (inside [] n) s)) (valid_below n (paths_of s) (dir_name n (root_id s) parts.named) (valid_paths s (valid.1.0, valid.1.1))))
    (valid_paths m (first.tree, valid.1.2))

-- ---- none above another
pub each_at : (P : Entry → Type 0) (list : List Entry) (e : Entry) → Each P list → Has list e → P e
each_at P [] e h k = absurd k
each_at P (x ∷ list) e h (inl same) = subst P same h.0
each_at P (x ∷ list) e h (inr k) = each_at P list e h.1 k

-- in one part of a list, or in the other
pub has_split : (xs ys : List Entry) (e : Entry) → Has (xs ++ ys) e → Has xs e ⊎ Has ys e
has_split [] ys e h = inr h
has_split (x ∷ xs) ys e (inl h) = inl (inl h)
has_split (x ∷ xs) ys e (inr h) = more (has_split xs ys e h)
  where
    more : Has xs e ⊎ Has ys e → (Has (x ∷ xs) e) ⊎ Has ys e
    more (inl k) = inl (inr k)
    more (inr k) = inr k

-- what an entry below a path is without it
pub record Within (front : List ℕ) (list : List Entry) (e : Entry) : Type 0 where
  pub own : Entry
  pub has : Has list own
  pub path : e.path ≡ front ++ own.path

has_below : (front : List ℕ) (list : List Entry) (e : Entry) → Has (all_below front list) e → Within front list e
has_below front [] e h = absurd h
has_below front (x ∷ list) e (inl same) = record { own = x; has = inl refl; path = sym (ap (λ (z : Entry). z.path) same) }
has_below front (x ∷ list) e (inr h) =
    let w = has_below front list e h in
    record { own = w.own; has = inr w.has; path = w.path }

-- no path of other names goes on to one in the directory
other_first : (n : List ℕ) (m : Dir) → IsSingle n → Apart n m → Each (λ e. (rest p : List ℕ) → n ++ slash ∷ p ≡ e.path ++ slash ∷ rest → ⊥) (paths_of m)
other_first n Empty single apart = tt
other_first n (Item k l m) single apart = ((λ rest p e. apart.1 (sym (cut_once slash n k p rest single apart.0 e).0)), other_first n m single apart.2)
other_first n (Sub k s m) single apart =
    Each-append (λ e. (rest p : List ℕ) → n ++ slash ∷ p ≡ e.path ++ slash ∷ rest → ⊥) (listed (inside [] k) s) (paths_of m)
    (Each-weaker (Under (inside [] k)) (λ e. (rest p : List ℕ) → n ++ slash ∷ p ≡ e.path ++ slash ∷ rest → ⊥)
    (λ e (r, own) rest p same.
    apart.1 (sym (cut_once slash n k p (r ++ slash ∷ rest) single apart.0
    (same ∙ ap (λ (z : List ℕ). z ++ slash ∷ rest) (own ∙ append_assoc k (slash ∷ []) r) ∙ append_assoc k (slash ∷ r) (slash ∷ rest))).0))
    (listed (inside [] k) s) (all_under (inside [] k) s))
    (other_first n m single apart.2)

no_clash : (dir : Dir) → IsDir dir → HasNoClash (paths_of dir)
no_clash Empty valid e f rest h k same = h
no_clash (Item n l m) valid e f rest h k same =
    let first = first_parts (leaf_entry n l) m valid.0.stored valid.0.valid in
    go first.single (none_under [] n m first.single first.apart) (no_clash m (first.tree, valid.1) e f rest) h k
  where
    go : IsSingle n → Each (λ y. Under (inside [] n) y → ⊥) (paths_of m) → (Has (paths_of m) e → Has (paths_of m) f → f.path ≡ e.path ++ slash ∷ rest → ⊥) → Has (paths_of (Item n l m)) e → Has (paths_of (Item n l m)) f → ⊥
    go single none more (inl a) (inl b) = single_or_not f.path e.path rest (subst (λ (z : Entry). IsSingle z.path) b single) same
    go single none more (inl a) (inr b) =
        each_at (λ y. Under (inside [] n) y → ⊥) (paths_of m) f none b (rest, same ∙ ap (λ (z : Entry). z.path ++ slash ∷ rest) (sym a) ∙ sym (append_assoc n (slash ∷ []) rest))
    go single none more (inr a) (inl b) = single_or_not f.path e.path rest (subst (λ (z : Entry). IsSingle z.path) b single) same
    go single none more (inr a) (inr b) = more a b same
no_clash (Sub n s m) valid e f rest h k same =
    let d = dir_entry n (record { 0 = root_id s }) in
    let first = first_parts d m valid.0.stored valid.0.valid in
    let q = n ++ slash ∷ [] in
    let inner = no_clash s (valid.1.0, valid.1.1) in
    let below = listed-below (inside [] n) s in
    go first.single (none_under [] n m first.single first.apart) (other_first n m first.single first.apart) (no_clash m (first.tree, valid.1.2) e f rest) inner
    (has_split (listed (inside [] n) s) (paths_of m) e h) (has_split (listed (inside [] n) s) (paths_of m) f k)
  where
    within : (x : Entry) → Has (listed (inside [] n) s) x → Within (n ++ slash ∷ []) (paths_of s) x
    within x h = has_below (n ++ slash ∷ []) (paths_of s) x (subst (λ (z : List Entry). Has z x) (listed-below (inside [] n) s) h)

    go : IsSingle n → Each (λ y. Under (inside [] n) y → ⊥) (paths_of m) → Each (λ y. (rest p : List ℕ) → n ++ slash ∷ p ≡ y.path ++ slash ∷ rest → ⊥) (paths_of m)
        → (Has (paths_of m) e → Has (paths_of m) f → f.path ≡ e.path ++ slash ∷ rest → ⊥) → HasNoClash (paths_of s)
        → Has (listed (inside [] n) s) e ⊎ Has (paths_of m) e → Has (listed (inside [] n) s) f ⊎ Has (paths_of m) f → ⊥
    go single none other more inner (inl a) (inl b) =
        let x = within e a in
        let y = within f b in
        inner x.own y.own rest x.has y.has
        (append_cancel_left (n ++ slash ∷ []) y.own.path (x.own.path ++ slash ∷ rest)
        (sym y.path ∙ same ∙ ap (λ (z : List ℕ). z ++ slash ∷ rest) x.path ∙ append_assoc (n ++ slash ∷ []) x.own.path (slash ∷ rest)))
    go single none other more inner (inl a) (inr b) =
        let x = within e a in
        each_at (λ y. Under (inside [] n) y → ⊥) (paths_of m) f none b
        (x.own.path ++ slash ∷ rest, same ∙ ap (λ (z : List ℕ). z ++ slash ∷ rest) x.path ∙ append_assoc (n ++ slash ∷ []) x.own.path (slash ∷ rest))
    go single none other more inner (inr a) (inl b) =
        let y = within f b in
        each_at (λ z. (rest p : List ℕ) → n ++ slash ∷ p ≡ z.path ++ slash ∷ rest → ⊥) (paths_of m) e other a rest y.own.path (sym (append_assoc n (slash ∷ []) y.own.path) ∙ sym y.path ∙ same)
    go single none other more inner (inr a) (inr b) = more a b same

pub paths_listed : (dir : Dir) → IsDir dir → IsPathList (paths_of dir)
paths_listed dir valid = record { sorted = sorted_paths [] dir valid; valid = valid_paths dir valid; apart = no_clash dir valid }
