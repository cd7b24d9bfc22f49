-- The leaf at a path, one name and one tree at a time.
use Rattle.std.proofs.Common.{◌≡◌, ℕ, Bool, true, false, cond, inl, inr, ⊎_elim, List, [], ◌∷◌, Option, Some, None, refl, sym, ap, subst, ◌∙◌}
use Rattle.std.specs.Prelude.{◌⊎◌, bytes_eq}
use Rattle.std.specs.List.{list_all}
use Rattle.std.proofs.lemmas.Bool.{and_parts, false_from_ne_true}
use Rattle.std.proofs.lemmas.Slice.Eq.{bytes_eq-Decides}
use Rattle.places.specs.All.{Names, Ground}
use Rattle.git_objects.specs.All.{is_before, is_tree}
use Rattle.git_objects.specs.declared.entries.TreeEntry.{TreeEntry}
use Rattle.git_objects.proofs.Parsing.{tree_parts}
use Rattle.git_objects.proofs.Twins.{names_differ}
use Rattle.snapshot.specs.Leaves.{leaf_entry, dir_entry}
use Rattle.snapshot.specs.Dirs.{Dir, Empty, Item, Sub, entries_of, root_id, leaf_in}
use Rattle.snapshot.specs.Stands.{Stands, SubsStand}
use Rattle.snapshot.specs.Laws.{HasEntry, IsLeafAt, LeafInStanding}
use Rattle.snapshot.specs.declared.entries.Leaf.{Leaf}
use Rattle.snapshot.proofs.Standing.{leaf_same, no_leaf_dir, tree_same}

if_true : {A : Type 0} (b : Bool) (x y : Option A) → b ≡ true → cond b x y ≡ x
if_true true x y h = refl
if_true false x y h = absurd (cc h)

if_false : {A : Type 0} (b : Bool) (x y : Option A) → b ≡ false → cond b x y ≡ y
if_false true x y h = absurd (cc h)
if_false false x y h = refl

test : (a b : List ℕ) → ((a ≡ b) × (bytes_eq a b ≡ true)) ⊎ (bytes_eq a b ≡ false)
test a b = by (bytes_eq a b) refl
  where
    by : (t : Bool) → bytes_eq a b ≡ t → ((a ≡ b) × (bytes_eq a b ≡ true)) ⊎ (bytes_eq a b ≡ false)
    by true e = inl ((bytes_eq-Decides a b).0 e, e)
    by false e = inr e

no_path : (d : Dir) → leaf_in d [] ≡ None
no_path Empty = refl
no_path (Item x y z) = refl
no_path (Sub x y z) = refl

-- ---- from the directory to its trees
leaf_has : (dir : Dir) (n : List ℕ) (leaf : Leaf) → leaf_in dir (n ∷ []) ≡ Some leaf → HasEntry (entries_of dir) (leaf_entry n leaf)
leaf_has Empty n leaf h = cc h
leaf_has (Item m l more) n leaf h =
    ⊎_elim
    (λ (same, t).
    let is : Some l ≡ Some leaf = sym (if_true (bytes_eq m n) (Some l) (leaf_in more (n ∷ [])) t) ∙ h in
    let leaves : l ≡ leaf = cc is in
    inl (λ i. leaf_entry (same i) (leaves i)))
    (λ t. inr (leaf_has more n leaf (sym (if_false (bytes_eq m n) (Some l) (leaf_in more (n ∷ [])) t) ∙ h))) (test m n)
leaf_has (Sub m s more) n leaf h =
    ⊎_elim
    (λ (same, t).
    let is : None ≡ Some leaf = sym (no_path s) ∙ sym (if_true (bytes_eq m n) (leaf_in s []) (leaf_in more (n ∷ [])) t) ∙ h in
    absurd (cc is))
    (λ t. inr (leaf_has more n leaf (sym (if_false (bytes_eq m n) (leaf_in s []) (leaf_in more (n ∷ [])) t) ∙ h))) (test m n)

module _ (repo : Names) (g : Ground) where
  pub record Found (entries : List TreeEntry) (n : List ℕ) (path : Names) (leaf : Leaf) : Type 0 where
    pub sub : Dir
    pub entry : HasEntry entries (dir_entry n (record { 0 = root_id sub }))
    pub stands : Stands repo (root_id sub) g sub
    pub leads : leaf_in sub path ≡ Some leaf

  found_later : (e : TreeEntry) (entries : List TreeEntry) (n : List ℕ) (path : Names) (leaf : Leaf) → Found entries n path leaf → Found (e ∷ entries) n path leaf
  found_later e entries n path leaf f = record { sub = f.sub; entry = inr f.entry; stands = f.stands; leads = f.leads }

  sub_found : (dir : Dir) (n m : List ℕ) (ns : Names) (leaf : Leaf) → SubsStand repo g dir → leaf_in dir (n ∷ m ∷ ns) ≡ Some leaf → Found (entries_of dir) n (m ∷ ns) leaf
  sub_found Empty n m ns leaf subs h = cc h
  sub_found (Item k l more) n m ns leaf subs h =
      ⊎_elim
      (λ (same, t).
      let is : None ≡ Some leaf = sym (if_true (bytes_eq k n) None (leaf_in more (n ∷ m ∷ ns)) t) ∙ h in
      absurd (cc is))
      (λ t. found_later (leaf_entry k l) (entries_of more) n (m ∷ ns) leaf (sub_found more n m ns leaf subs (sym (if_false (bytes_eq k n) None (leaf_in more (n ∷ m ∷ ns)) t) ∙ h))) (test k n)
  sub_found (Sub k s more) n m ns leaf subs h =
      ⊎_elim
      (λ (same, t). record {
        sub = s;
        entry = inl (λ i. dir_entry (same i) (record { 0 = root_id s }));
        stands = record { tree = subs.0; subs = subs.1 };
        leads = sym (if_true (bytes_eq k n) (leaf_in s (m ∷ ns)) (leaf_in more (n ∷ m ∷ ns)) t) ∙ h;
      })
      (λ t. found_later (dir_entry k (record { 0 = root_id s })) (entries_of more) n (m ∷ ns) leaf (sub_found more n m ns leaf subs.2 (sym (if_false (bytes_eq k n) (leaf_in s (m ∷ ns)) (leaf_in more (n ∷ m ∷ ns)) t) ∙ h))) (test k n)

  to_descent : (path : Names) (id : List ℕ) (dir : Dir) (leaf : Leaf) → Stands repo id g dir → leaf_in dir path ≡ Some leaf → IsLeafAt repo g id path leaf
  to_descent [] id dir leaf stands h =
      let is : None ≡ Some leaf = sym (no_path dir) ∙ h in
      cc is
  to_descent (n ∷ []) id dir leaf stands h = (entries_of dir, stands.tree, leaf_has dir n leaf h)
  to_descent (n ∷ m ∷ ns) id dir leaf stands h =
      let f = sub_found dir n m ns leaf stands.subs h in
      (entries_of dir, root_id f.sub, stands.tree, f.entry, to_descent (m ∷ ns) (root_id f.sub) f.sub leaf f.stands f.leads)

  -- ---- and back
  at_entry : (p : TreeEntry → Bool) (entries : List TreeEntry) (e : TreeEntry) → list_all p entries ≡ true → HasEntry entries e → p e ≡ true
  at_entry p [] e h k = absurd k
  at_entry p (x ∷ xs) e h (inl same) = ap p (sym same) ∙ (and_parts (p x) (list_all p xs) h).0
  at_entry p (x ∷ xs) e h (inr k) = at_entry p xs e (and_parts (p x) (list_all p xs) h).1 k

  other_name : (x e : TreeEntry) (xs : List TreeEntry) → is_tree (x ∷ xs) ≡ true → HasEntry xs e → bytes_eq x.name e.name ≡ false
  other_name x e xs tree k = false_from_ne_true (bytes_eq x.name e.name) (λ h. names_differ x e (at_entry (is_before x) xs e (tree_parts x xs tree).before k) ((bytes_eq-Decides x.name e.name).0 h))

  has_leaf : (dir : Dir) (n : List ℕ) (leaf : Leaf) → is_tree (entries_of dir) ≡ true → HasEntry (entries_of dir) (leaf_entry n leaf) → leaf_in dir (n ∷ []) ≡ Some leaf
  has_leaf Empty n leaf tree h = absurd h
  has_leaf (Item m l more) n leaf tree (inl e) =
      let same : m ≡ n = ap (λ (z : TreeEntry). z.name) e in
      if_true (bytes_eq m n) (Some l) (leaf_in more (n ∷ [])) ((bytes_eq-Decides m n).1 same) ∙ ap Some (leaf_same l leaf (ap (λ (z : TreeEntry). z.mode) e) (ap (λ (z : TreeEntry). z.id) e))
  has_leaf (Item m l more) n leaf tree (inr k) =
      if_false (bytes_eq m n) (Some l) (leaf_in more (n ∷ [])) (other_name (leaf_entry m l) (leaf_entry n leaf) (entries_of more) tree k) ∙ has_leaf more n leaf (tree_parts (leaf_entry m l) (entries_of more) tree).rest k
  has_leaf (Sub m s more) n leaf tree (inl e) = absurd (no_leaf_dir leaf (sym (ap (λ (z : TreeEntry). z.mode) e)))
  has_leaf (Sub m s more) n leaf tree (inr k) =
      if_false (bytes_eq m n) (leaf_in s []) (leaf_in more (n ∷ [])) (other_name (dir_entry m (record { 0 = root_id s })) (leaf_entry n leaf) (entries_of more) tree k)
      ∙ has_leaf more n leaf (tree_parts (dir_entry m (record { 0 = root_id s })) (entries_of more) tree).rest k

  pub record Down (dir : Dir) (n : List ℕ) (id : List ℕ) (path : Names) : Type 0 where
    pub sub : Dir
    pub stands : Stands repo id g sub
    pub same : leaf_in dir (n ∷ path) ≡ leaf_in sub path

  has_dir : (dir : Dir) (n m : List ℕ) (ns : Names) (id : List ℕ) → SubsStand repo g dir → is_tree (entries_of dir) ≡ true → HasEntry (entries_of dir) (dir_entry n (record { 0 = id })) → Down dir n id (m ∷ ns)
  has_dir Empty n m ns id subs tree h = absurd h
  has_dir (Item k l more) n m ns id subs tree (inl e) = absurd (no_leaf_dir l (ap (λ (z : TreeEntry). z.mode) e))
  has_dir (Item k l more) n m ns id subs tree (inr h) =
      let d = has_dir more n m ns id subs (tree_parts (leaf_entry k l) (entries_of more) tree).rest h in
      record { sub = d.sub; stands = d.stands; same = if_false (bytes_eq k n) None (leaf_in more (n ∷ m ∷ ns)) (other_name (leaf_entry k l) (dir_entry n (record { 0 = id })) (entries_of more) tree h) ∙ d.same }
  has_dir (Sub k s more) n m ns id subs tree (inl e) =
      let same : k ≡ n = ap (λ (z : TreeEntry). z.name) e in
      let ids : root_id s ≡ id = ap (λ (z : TreeEntry). z.id.0) e in
      record {
        sub = s;
        stands = subst (λ (z : List ℕ). Stands repo z g s) ids (record { tree = subs.0; subs = subs.1 });
        same = if_true (bytes_eq k n) (leaf_in s (m ∷ ns)) (leaf_in more (n ∷ m ∷ ns)) ((bytes_eq-Decides k n).1 same);
      }
  has_dir (Sub k s more) n m ns id subs tree (inr h) =
      let d = has_dir more n m ns id subs.2 (tree_parts (dir_entry k (record { 0 = root_id s })) (entries_of more) tree).rest h in
      record {
        sub = d.sub;
        stands = d.stands;
        same = if_false (bytes_eq k n) (leaf_in s (m ∷ ns)) (leaf_in more (n ∷ m ∷ ns)) (other_name (dir_entry k (record { 0 = root_id s })) (dir_entry n (record { 0 = id })) (entries_of more) tree h) ∙ d.same;
      }

  from_descent : (path : Names) (id : List ℕ) (dir : Dir) (leaf : Leaf) → Stands repo id g dir → IsLeafAt repo g id path leaf → leaf_in dir path ≡ Some leaf
  from_descent [] id dir leaf stands h = absurd h
  from_descent (n ∷ []) id dir leaf stands (entries, tree, has) =
      let same = tree_same repo g id entries (entries_of dir) tree stands.tree in
      has_leaf dir n leaf stands.tree.text.valid (subst (λ (z : List TreeEntry). HasEntry z (leaf_entry n leaf)) same has)
  from_descent (n ∷ m ∷ ns) id dir leaf stands (entries, sub, tree, has, more) =
      let same = tree_same repo g id entries (entries_of dir) tree stands.tree in
      let d = has_dir dir n m ns sub stands.subs stands.tree.text.valid (subst (λ (z : List TreeEntry). HasEntry z (dir_entry n (record { 0 = sub }))) same has) in
      d.same ∙ from_descent (m ∷ ns) sub d.sub leaf d.stands more

pub descent : LeafInStanding
descent repo g id dir path leaf stands = (to_descent repo g path id dir leaf stands, from_descent repo g path id dir leaf stands)
