-- A valid directory's paths are sorted.
use Rattle.std.proofs.Common.{ℕ, true, false, List, [], ◌∷◌, ◌++◌, sym, ap, subst, ◌∙◌, append_assoc, append-nil}
use Rattle.places.specs.All.{slash}
use Rattle.git_objects.specs.All.{is_entry, is_before, sort_key}
use Rattle.git_objects.proofs.Parsing.{tree_parts}
use Rattle.git_objects.proofs.Twins.{named_from_tree, whole_name}
use Rattle.snapshot.specs.Leaves.{leaf_entry, dir_entry}
use Rattle.snapshot.specs.Dirs.{Dir, Empty, Item, Sub, entries_of, root_id, inside, listed, IsDir}
use Rattle.snapshot.specs.Order.{Below, Each, IsSorted}
use Rattle.snapshot.specs.declared.entries.Entry.{Entry}
use Rattle.snapshot.proofs.Once.{Under, Each-append, Each-weaker, all_under, first_parts}
use Rattle.snapshot.proofs.Order.{leaf_key, before_below, below_longer, keys_extend, all_hold, rest_above}

sorted_join : (xs ys : List Entry) → IsSorted xs → IsSorted ys → Each (λ x. Each (λ y. Below x.path y.path) ys) xs → IsSorted (xs ++ ys)
sorted_join [] ys h k pairs = k
sorted_join (x ∷ xs) ys h k pairs = (Each-append (λ y. Below x.path y.path) xs ys h.0 pairs.0, sorted_join xs ys h.1 k pairs.1)

pub sorted_paths : (path : List ℕ) (dir : Dir) → IsDir dir → IsSorted (listed path dir)
sorted_paths path Empty valid = tt
sorted_paths path (Item n l m) valid =
    let e = leaf_entry n l in
    let parts = tree_parts e (entries_of m) valid.0.valid in
    let first = first_parts e m valid.0.stored valid.0.valid in (
      rest_above path n m
          (λ n' l' h. subst (λ (z : List ℕ). Below z n') (leaf_key n l) (subst (λ (z : List ℕ). Below (sort_key e) z) (leaf_key n' l') (before_below e (leaf_entry n' l') (all_hold (is_before e) (leaf_entry n' l') m parts.before h))))
          (λ n' q s' h. below_longer n (n' ++ slash ∷ []) q (subst (λ (z : List ℕ). Below z (n' ++ slash ∷ [])) (leaf_key n l) (before_below e (dir_entry n' (record { 0 = root_id s' })) (all_hold (is_before e) (dir_entry n' (record { 0 = root_id s' })) m parts.before h)))),
      sorted_paths path m (first.tree, valid.1),
    )
sorted_paths path (Sub n s m) valid =
    let e = dir_entry n (record { 0 = root_id s }) in
    let parts = tree_parts e (entries_of m) valid.0.valid in
    let first = first_parts e m valid.0.stored valid.0.valid in
    let named = named_from_tree (entries_of m) parts.rest in
    sorted_join (listed (inside path n) s) (listed path m) (sorted_paths (inside path n) s (valid.1.0, valid.1.1)) (sorted_paths path m (first.tree, valid.1.2))
    (Each-weaker (Under (inside path n)) (λ x. Each (λ y. Below x.path y.path) (listed path m))
    (λ x (r, own).
    subst (λ (z : List ℕ). Each (λ y. Below z y.path) (listed path m)) (sym (own ∙ ap (λ (z : List ℕ). z ++ r) (append_assoc path n (slash ∷ [])) ∙ append_assoc path (n ++ slash ∷ []) r))
    (rest_above path ((n ++ slash ∷ []) ++ r) m
    (λ n' l' h.
    let single = whole_name (leaf_entry n' l') (all_hold is_entry (leaf_entry n' l') m named h) in
    let key = subst (λ (z : List ℕ). Below (n ++ slash ∷ []) z) (leaf_key n' l' ∙ sym (append-nil n')) (before_below e (leaf_entry n' l') (all_hold (is_before e) (leaf_entry n' l') m parts.before h)) in
    subst (λ (z : List ℕ). Below ((n ++ slash ∷ []) ++ r) z) (append-nil (n' ++ []) ∙ append-nil n') (keys_extend n n' r [] false first.single single key))
    (λ n' q s' h.
    let d = dir_entry n' (record { 0 = root_id s' }) in
    let single = whole_name d (all_hold is_entry d m named h) in
    keys_extend n n' r q true first.single single (before_below e d (all_hold (is_before e) d m parts.before h)))))
    (listed (inside path n) s) (all_under (inside path n) s))
