-- At most one directory stands at an id.
use Rattle.std.proofs.Common.{◌≡◌, ℕ, true, false, List, [], ◌∷◌, ◌++◌, Some, sym, ap, subst, ◌∙◌, refl}
use Rattle.places.specs.All.{Names, Ground}
use Rattle.git_objects.specs.All.{IsTreeText, is_dir, tree_text, Object}
use Rattle.git_objects.specs.declared.entries.TreeEntry.{TreeEntry}
use Rattle.git_objects.specs.declared.entries.Mode.TheVariants.{Dir as DirMode}
use Rattle.git_objects.specs.declared.objects.ObjKind.TheVariants.{Tree as TreeKind}
use Rattle.git_objects.proofs.Parsing.{tree_once}
use Rattle.repository.proofs.Holds.{is_held}
use Rattle.object_store.specs.All.{IsTreeAt}
use Rattle.object_store.specs.declared.objects.NewObject.{NewObject}
use Rattle.snapshot.specs.Leaves.{mode_of, id_of, leaf_entry, dir_entry}
use Rattle.snapshot.specs.Dirs.{Dir, Empty, Item, Sub, entries_of, root_id, tree_of, inner_objects}
use Rattle.snapshot.specs.Dirs.{tree_objects, EachSub, IsTreeOf, IsDir}
use Rattle.snapshot.specs.Stands.{SubsStand, Stands}
use Rattle.snapshot.specs.Laws.{AreHeld}
use Rattle.snapshot.specs.declared.entries.Leaf.{Leaf}
use Rattle.snapshot.specs.declared.entries.Leaf.TheVariants.{Git, Link, Pin}

pub leaf_same : (a b : Leaf) → mode_of a ≡ mode_of b → id_of a ≡ id_of b → a ≡ b
leaf_same (Git i true) (Git j true) m e = λ k. Git (e k) true
leaf_same (Git i false) (Git j false) m e = λ k. Git (e k) false
leaf_same (Git i true) (Git j false) m e = cc m
leaf_same (Git i false) (Git j true) m e = cc m
leaf_same (Git i true) (Link j) m e = cc m
leaf_same (Git i false) (Link j) m e = cc m
leaf_same (Git i true) (Pin j) m e = cc m
leaf_same (Git i false) (Pin j) m e = cc m
leaf_same (Link i) (Git j true) m e = cc m
leaf_same (Link i) (Git j false) m e = cc m
leaf_same (Link i) (Link j) m e = ap Link e
leaf_same (Link i) (Pin j) m e = cc m
leaf_same (Pin i) (Git j true) m e = cc m
leaf_same (Pin i) (Git j false) m e = cc m
leaf_same (Pin i) (Link j) m e = cc m
leaf_same (Pin i) (Pin j) m e = ap Pin e

pub no_leaf_dir : (l : Leaf) → mode_of l ≡ DirMode → ⊥
no_leaf_dir (Git i true) m = cc m
no_leaf_dir (Git i false) m = cc m
no_leaf_dir (Link i) m = cc m
no_leaf_dir (Pin i) m = cc m

pub no_leaf_is_dir : (l : Leaf) → is_dir (mode_of l) ≡ true → ⊥
no_leaf_is_dir (Git i true) m = cc m
no_leaf_is_dir (Git i false) m = cc m
no_leaf_is_dir (Link i) m = cc m
no_leaf_is_dir (Pin i) m = cc m

module _ (repo : Names) (g : Ground) where
  -- one tree is held under an id
  pub tree_same : (id : List ℕ) (es fs : List TreeEntry) → IsTreeAt repo id g es → IsTreeAt repo id g fs → es ≡ fs
  tree_same id es fs one two =
      let held : Some (record { kind = TreeKind; body = one.body }) ≡ Some (record { kind = TreeKind; body = two.body }) = sym one.held ∙ two.held in
      let objects : record { kind = TreeKind; body = one.body } ≡ record { kind = TreeKind; body = two.body } = cc held in
      let body : one.body ≡ two.body = ap (λ (o : Object). o.body) objects in
      tree_once two.body es fs (subst (λ (z : List ℕ). IsTreeText z es) body one.text) two.text

  pub same_dirs : (a b : Dir) → SubsStand repo g a → SubsStand repo g b → entries_of a ≡ entries_of b → a ≡ b
  same_dirs Empty Empty h k e = refl
  same_dirs Empty (Item n l m) h k e = cc e
  same_dirs Empty (Sub n s m) h k e = cc e
  same_dirs (Item n l m) Empty h k e = cc e
  same_dirs (Sub n s m) Empty h k e = cc e
  same_dirs (Item n l m) (Item n' l' m') h k e =
      let heads : leaf_entry n l ≡ leaf_entry n' l' = cc e in
      let tails : entries_of m ≡ entries_of m' = cc e in
      let leaf = leaf_same l l' (ap (λ (z : TreeEntry). z.mode) heads) (ap (λ (z : TreeEntry). z.id) heads) in
      λ i. Item (heads i).name (leaf i) (same_dirs m m' h k tails i)
  same_dirs (Item n l m) (Sub n' s' m') h k e =
      let heads : leaf_entry n l ≡ dir_entry n' (record { 0 = root_id s' }) = cc e in
      absurd (no_leaf_dir l (ap (λ (z : TreeEntry). z.mode) heads))
  same_dirs (Sub n s m) (Item n' l' m') h k e =
      let heads : dir_entry n (record { 0 = root_id s }) ≡ leaf_entry n' l' = cc e in
      absurd (no_leaf_dir l' (sym (ap (λ (z : TreeEntry). z.mode) heads)))
  same_dirs (Sub n s m) (Sub n' s' m') h k e =
      let heads : dir_entry n (record { 0 = root_id s }) ≡ dir_entry n' (record { 0 = root_id s' }) = cc e in
      let tails : entries_of m ≡ entries_of m' = cc e in
      let id : root_id s ≡ root_id s' = ap (λ (z : TreeEntry). z.id.0) heads in
      let entries = tree_same (root_id s') (entries_of s) (entries_of s') (subst (λ (z : List ℕ). IsTreeAt repo z g (entries_of s)) id h.0) k.0 in
      let own = same_dirs s s' h.1 k.1 entries in
      λ i. Sub (heads i).name (own i) (same_dirs m m' h.2 k.2 tails i)

  -- at most one directory stands at an id
  pub stands_once : (id : List ℕ) (a b : Dir) → Stands repo id g a → Stands repo id g b → a ≡ b
  stands_once id a b one two = same_dirs a b one.subs two.subs (tree_same id (entries_of a) (entries_of b) one.tree two.tree)

  -- ---- a directory stands where its trees are held
  held_front : (xs ys : List NewObject) → AreHeld repo g (xs ++ ys) → AreHeld repo g xs × AreHeld repo g ys
  held_front [] ys h = (tt, h)
  held_front (x ∷ xs) ys h =
      let more = held_front xs ys h.1 in
      ((h.0, more.0), more.1)

  held_tree : (dir : Dir) → IsTreeOf dir → AreHeld repo g (tree_of dir ∷ []) → IsTreeAt repo (root_id dir) g (entries_of dir)
  held_tree dir tree h = record {
    body = tree_text (entries_of dir);
    held = is_held g repo (root_id dir) TreeKind (tree_text (entries_of dir)) h.0;
    text = record { stored = tree.stored; valid = tree.valid; text = refl };
  }

  held_subs : (dir : Dir) → EachSub IsTreeOf dir → AreHeld repo g (inner_objects dir) → SubsStand repo g dir
  held_subs Empty trees h = tt
  held_subs (Item n l m) trees h = held_subs m trees h
  held_subs (Sub n s m) trees h =
      let outer = held_front (inner_objects s ++ tree_of s ∷ []) (inner_objects m) h in
      let own = held_front (inner_objects s) (tree_of s ∷ []) outer.0 in
      (held_tree s trees.0 own.1, held_subs s trees.1 own.0, held_subs m trees.2 outer.1)

  pub stands_held : (dir : Dir) → IsDir dir → AreHeld repo g (tree_objects dir) → Stands repo (root_id dir) g dir
  stands_held dir valid h =
      let parts = held_front (inner_objects dir) (tree_of dir ∷ []) h in
      record { tree = held_tree dir valid.0 parts.1; subs = held_subs dir valid.1 parts.0 }

  held_back : (xs ys : List NewObject) → AreHeld repo g xs → AreHeld repo g ys → AreHeld repo g (xs ++ ys)
  held_back [] ys h k = k
  held_back (x ∷ xs) ys h k = (h.0, held_back xs ys h.1 k)

  -- and such a directory is valid
  subs_valid : (dir : Dir) → SubsStand repo g dir → EachSub IsTreeOf dir
  subs_valid Empty h = tt
  subs_valid (Item n l m) h = subs_valid m h
  subs_valid (Sub n s m) h = (record { stored = h.0.text.stored; valid = h.0.text.valid }, subs_valid s h.1, subs_valid m h.2)

  pub stands_valid : (id : List ℕ) (dir : Dir) → Stands repo id g dir → IsDir dir
  stands_valid id dir h = (record { stored = h.tree.text.stored; valid = h.tree.text.valid }, subs_valid dir h.subs)
