-- What an old snapshot leads to is held where its commit is whole, so each leaf of the new one is held or put.
use Rattle.std.proofs.Common.{◌≡◌, ◌⊎◌, inl, inr, ℕ, Bool, true, false, cond, List, [], ◌∷◌, ◌++◌, map, Option, Some, None, refl, sym, ap, ◌∙◌, subst}
use Rattle.std.specs.Prelude.{bytes_eq, not, option_map}
use Rattle.std.proofs.lemmas.Bool.{false≢true}
use Rattle.std.proofs.lemmas.Slice.Eq.{bytes_eq-Decides}
use Rattle.places.specs.All.{Names, Ground}
use Rattle.git_objects.specs.All.{Object, is_dir, IsTreeText}
use Rattle.git_objects.specs.declared.ids.Id.{Id}
use Rattle.git_objects.specs.declared.entries.Mode.{Mode}
use Rattle.git_objects.specs.declared.entries.TreeEntry.{TreeEntry}
use Rattle.git_objects.specs.declared.entries.Mode.TheVariants.{File, Exec, Link as LinkMode}
use Rattle.git_objects.specs.declared.entries.Mode.TheVariants.{Dir as DirMode, Pin as PinMode}
use Rattle.git_objects.specs.declared.objects.ObjKind.TheVariants.{Blob, Tree as TreeKind}
use Rattle.git_objects.proofs.Parsing.{tree_once}
use Rattle.object_store.specs.All.{IsTreeAt}
use Rattle.object_store.specs.declared.objects.NewObject.{NewObject}
use Rattle.snapshot.specs.All.{Dir, Empty, Item, Sub, SubsStand, dir_entry, entries_of, inside}
use Rattle.snapshot.specs.All.{leaf_entry, listed, root_id, id_of, mode_of}
use Rattle.snapshot.specs.declared.entries.Entry.{Entry}
use Rattle.snapshot.specs.declared.entries.Leaf.{Leaf}
use Rattle.snapshot.specs.declared.entries.Leaf.TheVariants.{Git, Link, Pin}
use Rattle.dataset.specs.All.{Has, IsBlobAt, IsBlobThere, IsLeafHeld, EachLeaf, IsLeafThere, blob_objects}
use Rattle.dataset.proofs.Commits.{has_either}
use Rattle.kept_files.specs.All.{leaf_id, new_blob}
use Rattle.kept_files.specs.declared.kept.Kept.{Kept}
use Rattle.kept_files.specs.declared.kept.Kept.TheVariants.{Same, InGit, Pointer, Content}
use Rattle.repository.specs.All.{repo_of}
use Rattle.tree_status.specs.All.{KeepBy, WorkFile, added, blob_in, is_blob, leaf_at, new_entries}
use Rattle.tree_status.specs.All.{new_entry, old_blob, work_of}
use Rattle.tree_status.specs.declared.found.WorkingFile.{WorkingFile}
use Rattle.recursive_save.specs.Saving.{blob_by, blob_of, blobs_in, new_blobs}
use Rattle.recursive_save.proofs.There.{AreOf, IsOf, bytes_of}

module _ (repo : Names) (g : Ground) where
  -- ONE DIRECTORY is held under an id, and so are its leaves
  abbrev needs : Mode → Id → Type 0
  needs File id = IsBlobAt repo id.0 g
  needs Exec id = IsBlobAt repo id.0 g
  needs LinkMode id = IsBlobAt repo id.0 g
  needs DirMode id = Unit {0}
  needs PinMode id = Unit {0}

  to_needs : (leaf : Leaf) → IsLeafHeld repo g leaf → needs (mode_of leaf) (id_of leaf)
  to_needs (Git id true) h = h
  to_needs (Git id false) h = h
  to_needs (Link id) h = h
  to_needs (Pin id) h = tt

  from_needs : (leaf : Leaf) → needs (mode_of leaf) (id_of leaf) → IsLeafHeld repo g leaf
  from_needs (Git id true) h = h
  from_needs (Git id false) h = h
  from_needs (Link id) h = h
  from_needs (Pin id) h = tt

  leaf_same : (n m : List ℕ) (leaf other : Leaf) → leaf_entry n leaf ≡ leaf_entry m other → IsLeafHeld repo g leaf → IsLeafHeld repo g other
  leaf_same n m leaf other e h = from_needs other (subst (λ (t : TreeEntry). needs t.mode t.id) e (to_needs leaf h))

  not_dir : (leaf : Leaf) → is_dir (mode_of leaf) ≡ false
  not_dir (Git id true) = refl
  not_dir (Git id false) = refl
  not_dir (Link id) = refl
  not_dir (Pin id) = refl

  no_dir : (leaf : Leaf) (n m : List ℕ) (id : Id) → leaf_entry n leaf ≡ dir_entry m id → ⊥
  no_dir leaf n m id e = false≢true (sym (not_dir leaf) ∙ ap (λ (t : TreeEntry). is_dir t.mode) e)

  pub entries_same : (id : List ℕ) (es fs : List TreeEntry) → IsTreeAt repo id g es → IsTreeAt repo id g fs → es ≡ fs
  entries_same id es fs a b =
      let held : Some (record { kind = TreeKind; body = a.body }) ≡ Some (record { kind = TreeKind; body = b.body }) = sym a.held ∙ b.held in
      let objects : record { kind = TreeKind; body = a.body } ≡ record { kind = TreeKind; body = b.body } = cc held in
      let body : a.body ≡ b.body = ap (λ (o : Object). o.body) objects in
      tree_once b.body es fs (subst (λ (z : List ℕ). IsTreeText z es) body a.text) b.text

  pub leaves_same : (a b : Dir) → entries_of a ≡ entries_of b → SubsStand repo g a → SubsStand repo g b → EachLeaf (IsLeafHeld repo g) a → EachLeaf (IsLeafHeld repo g) b
  leaves_same Empty Empty e s t h = tt
  leaves_same Empty (Item n l m) e s t h = absurd (cc e)
  leaves_same Empty (Sub n d m) e s t h = absurd (cc e)
  leaves_same (Item n l m) Empty e s t h = absurd (cc e)
  leaves_same (Item n l m) (Item o k p) e s t h =
      let first : leaf_entry n l ≡ leaf_entry o k = cc e in
      let rest : entries_of m ≡ entries_of p = cc e in
      (leaf_same n o l k first h.0, leaves_same m p rest s t h.1)
  leaves_same (Item n l m) (Sub o d p) e s t h =
      let first : leaf_entry n l ≡ dir_entry o (record { 0 = root_id d }) = cc e in
      absurd (no_dir l n o (record { 0 = root_id d }) first)
  leaves_same (Sub n d m) Empty e s t h = absurd (cc e)
  leaves_same (Sub n d m) (Item o k p) e s t h =
      let first : leaf_entry o k ≡ dir_entry n (record { 0 = root_id d }) = cc (sym e) in
      absurd (no_dir k o n (record { 0 = root_id d }) first)
  leaves_same (Sub n d m) (Sub o c p) e s t h =
      let first : dir_entry n (record { 0 = root_id d }) ≡ dir_entry o (record { 0 = root_id c }) = cc e in
      let rest : entries_of m ≡ entries_of p = cc e in
      let ids : root_id d ≡ root_id c = ap (λ (x : TreeEntry). x.id.0) first in
      let inner : entries_of d ≡ entries_of c = entries_same (root_id d) (entries_of d) (entries_of c) s.0 (subst (λ (i : List ℕ). IsTreeAt repo i g (entries_of c)) (sym ids) t.0) in
      (leaves_same d c inner s.1 t.1 h.0, leaves_same m p rest s.2 t.2 h.1)

-- LISTS
pub each_listed : (P : Leaf → Type 0) (path : List ℕ) (dir : Dir) → EachLeaf P dir → (e : Entry) → Has (listed path dir) e → P e.leaf
each_listed P path Empty h e has = absurd has
each_listed P path (Item n l m) h e (inl is) = subst (λ (x : Entry). P x.leaf) is h.0
each_listed P path (Item n l m) h e (inr has) = each_listed P path m h.1 e has
each_listed P path (Sub n s m) h e has = elim (has_either (listed (inside path n) s) (listed path m) e has) [
  | inl own ↦ each_listed P (inside path n) s h.0 e own
  | inr rest ↦ each_listed P path m h.1 e rest
]

pub old_leaf : (path : List ℕ) (list : List Entry) (l : Leaf) → leaf_at path list ≡ Some l → (e : Entry) × Has list e × (e.leaf ≡ l)
old_leaf path [] l is = absurd (cc is)
old_leaf path (e ∷ list) l is = by (bytes_eq e.path path) is (old_leaf path list l)
  where
    by : (b : Bool) → cond b (Some e.leaf) (leaf_at path list) ≡ Some l → (leaf_at path list ≡ Some l → (f : Entry) × Has list f × (f.leaf ≡ l)) → (f : Entry) × Has (e ∷ list) f × (f.leaf ≡ l)
    by true k more =
        let same : e.leaf ≡ l = cc k in
        (e, inl refl, same)
    by false k more =
        let found = more k in
        (found.0, inr found.1, found.2)

-- the bodies of some blobs
abbrev pub bodies : List WorkFile → List (List ℕ)
bodies blobs = map (λ blob. blob.1) blobs

pub blobs_are : (blobs : List WorkFile) → map blob_of blobs ≡ blob_objects (bodies blobs)
blobs_are [] = refl
blobs_are (b ∷ blobs) = ap (λ (os : List NewObject). record { kind = Blob; body = b.1 } ∷ os) (blobs_are blobs)

-- the leaf that stays is that of the same blob
same_blob : (o : Option Leaf) (id : List ℕ) → option_map (λ (i : Id). i.0) (blob_in o) ≡ Some id → is_blob id o ≡ true
same_blob None id e = absurd (cc e)
same_blob (Some (Git blob exec)) id e = (bytes_eq-Decides blob.0 id).1 (cc e)
same_blob (Some (Link t)) id e = absurd (cc e)
same_blob (Some (Pin c)) id e = absurd (cc e)

-- EACH NEW LEAF is held on a ground h that holds the old ones, or put
module _ (root : Names) (g h : Ground) (by : KeepBy) (held : (path : List ℕ) (l : Leaf) → leaf_at path by.old ≡ Some l → IsLeafHeld (repo_of root) h l) where
  abbrev repo : Names
  repo = repo_of root

  blob_held : (id : List ℕ) (o : Option Leaf) → ((l : Leaf) → o ≡ Some l → IsLeafHeld repo h l) → is_blob id o ≡ true → IsBlobAt repo id h
  blob_held id None each is = absurd (cc is)
  blob_held id (Some (Git blob exec)) each is = subst (λ (i : List ℕ). IsBlobAt repo i h) ((bytes_eq-Decides blob.0 id).0 is) (each (Git blob exec) refl)
  blob_held id (Some (Link t)) each is = absurd (cc is)
  blob_held id (Some (Pin c)) each is = absurd (cc is)

  one_more : (b : List ℕ) (bs : List (List ℕ)) (leaf : Leaf) → IsLeafThere repo h bs leaf → IsLeafThere repo h (b ∷ bs) leaf
  one_more b bs (Git id exec) (inl at) = inl at
  one_more b bs (Git id exec) (inr (body, has, is)) = inr (body, inr has, is)
  one_more b bs (Link id) (inl at) = inl at
  one_more b bs (Link id) (inr (body, has, is)) = inr (body, inr has, is)
  one_more b bs (Pin id) there = there

  more_there : (some rest : List WorkFile) (leaf : Leaf) → IsLeafThere repo h (bodies rest) leaf → IsLeafThere repo h (bodies (some ++ rest)) leaf
  more_there [] rest leaf there = there
  more_there (b ∷ some) rest leaf there = one_more b.1 (bodies (some ++ rest)) leaf (more_there some rest leaf there)

  put_by : (kept : Kept) (path bytes id : List ℕ) (rest : List WorkFile) → leaf_id kept (old_blob by path) bytes ≡ Some id → is_blob id (leaf_at path by.old) ≡ false
      → IsBlobThere repo id h (bodies (blob_by path (new_blob kept bytes) ++ rest))
  put_by (Same is_content) path bytes id rest is new = absurd (false≢true (sym new ∙ same_blob (leaf_at path by.old) id is))
  put_by InGit path bytes id rest is new = inr (bytes, inl refl, cc is)
  put_by (Pointer text) path bytes id rest is new = inr (text, inl refl, cc is)
  put_by (Content text own) path bytes id rest is new = inr (text, inl refl, cc is)

  id_of_file : (f : WorkingFile) → IsOf root g by f → leaf_id f.kept (old_blob by f.path) (work_of root g f.path).1 ≡ Some f.id.0
  id_of_file f of =
      (λ i. leaf_id f.kept (old_blob by (of.kept.path i)) (bytes_of root g by f of i)) ∙ of.kept.id

  pub all_there : (files : List WorkingFile) → AreOf root g by files → (e : Entry) → Has (new_entries by.old files) e → IsLeafThere repo h (bodies (new_blobs root g by.old files)) e.leaf
  all_there [] of e has = absurd has
  all_there (f ∷ files) of e has = choose (is_blob f.id.0 (leaf_at f.path by.old)) refl (all_there files of.1 e) has
    where
      choose : (b : Bool) → is_blob f.id.0 (leaf_at f.path by.old) ≡ b → (Has (new_entries by.old files) e → IsLeafThere repo h (bodies (new_blobs root g by.old files)) e.leaf) → (new_entry by.old f ≡ e) ⊎ Has (new_entries by.old files) e
          → IsLeafThere repo h (bodies (blobs_in root g (cond (not b) (f ∷ added by.old files) (added by.old files)))) e.leaf
      choose true is more (inl same) = subst (λ (x : Entry). IsLeafThere repo h (bodies (new_blobs root g by.old files)) x.leaf) same (inl (blob_held f.id.0 (leaf_at f.path by.old) (held f.path) is))
      choose true is more (inr has) = more has
      choose false is more (inl same) =
          subst (λ (x : Entry). IsLeafThere repo h (bodies (blobs_in root g (f ∷ added by.old files))) x.leaf) same
          (put_by f.kept f.path (work_of root g f.path).1 f.id.0 (new_blobs root g by.old files) (id_of_file f of.0) is)
      choose false is more (inr has) = more_there (blob_by f.path (new_blob f.kept (work_of root g f.path).1)) (new_blobs root g by.old files) e.leaf (more has)
