-- What is looked at: the faults that come of its readings, in their order.
use Rattle.std.proofs.Common.{◌≡◌, inl, inr, ℕ, Bool, IsTrue, List, [], ◌∷◌, map, Option, Some, None, Result, Ok, Err, Vec, refl, sym, ap, ◌∙◌, subst, arith}
use Rattle.std.specs.declared.alloc.Global.{Global}
use Rattle.places.specs.All.{Names, Ground}
use Rattle.faults.specs.declared.faults.Fault.{Fault}
use Rattle.faults.specs.declared.faults.Trouble.{Trouble}
use Rattle.faults.specs.declared.faults.Fault.TheVariants.{Damaged, Missing, BadTree, BadCommit}
use Rattle.faults.specs.declared.faults.Fault.TheVariants.{TooLarge, UnsupportedMode, OddKind}
use Rattle.faults.specs.declared.faults.Fault.TheVariants.{Dirty}
use Rattle.faults.specs.declared.faults.Trouble.TheVariants.{Refused}
use Rattle.file_store.specs.All.{Drive, History, present, or_next}
use Rattle.git_objects.specs.declared.ids.Id.{Id}
use Rattle.acts.specs.All.{Reads}
use Rattle.acts.proofs.Reading.{read_after, read_err, read_gives, read_refuses}
use Rattle.repository.specs.All.{repo_of}
use Rattle.object_store.specs.All.{MayGetBody, MayReadCommit, MayReadTree}
use Rattle.ref_store.specs.All.{IsTipAt, MayReadTip, TipReads}
use Rattle.snapshot.specs.All.{ArePointed, IsFlat, IsFlattenFault, MayFlatten, MayPoint, MayPointAt}
use Rattle.snapshot.specs.All.{MayWalk as MayWalkTrees, pointers_fault}
use Rattle.snapshot.specs.declared.entries.Entry.{Entry}
use Rattle.snapshot.specs.declared.entries.Leaf.{Leaf}
use Rattle.snapshot.specs.declared.entries.Leaf.TheVariants.{Git, Link, Pin}
use Rattle.snapshot.specs.declared.pointing.Pointer.{Pointer}
use Rattle.tree_status.specs.Changes.{ArePaths}
use Rattle.tree_status.specs.Keeping.{KeepBy, limit_by}
use Rattle.tree_status.specs.KeepingFiles.{AreKeptFiles, AreThere, FilesKeep, MayKeepFiles, work_of}
use Rattle.tree_status.specs.Looks.{IsUnread, IsWalkRefused, pin_fault}
use Rattle.tree_status.specs.Views.{AreFiles, IsKeeping, IsNoKeeping, IsView, MayReadFiles}
use Rattle.tree_status.specs.Views.{MayReadKeeping, MayView}
use Rattle.tree_status.specs.Walks.{AreWorking, MayWalk}
use Rattle.tree_status.specs.Working.{WorkFile, walk_fault, working}
use Rattle.tree_status.specs.declared.found.WorkingFile.{WorkingFile}
use Rattle.tree_status.specs.declared.viewing.View.{View}
use Rattle.tree_status.proofs.PathOrder.{told_paths}
use Rattle.tree_status.proofs.Readings.{read_fails}
use Rattle.tree_status.proofs.ToldFiles.{told_there, told_works}

module _ (tells : Bool) (root : Names) where
  pub tip_may : (fault : Fault) → MayReadTip (repo_of root) fault → MayView tells root fault
  tip_may (Damaged place) h = inl h
  tip_may (TooLarge path size) h = inl h
  tip_may fault h = absurd h

  commit_may : (id : List ℕ) (fault : Fault) → MayReadCommit (repo_of root) id fault → MayView tells root fault
  commit_may id (Damaged place) h = inr (id, h)
  commit_may id (Missing other) h = tt
  commit_may id (BadCommit other at) h = tt
  commit_may id (TooLarge path size) h = inr (inl (id, inl h))
  commit_may id fault h = absurd h

  tree_may : (id : List ℕ) (fault : Fault) → MayReadTree (repo_of root) id fault → MayView tells root fault
  tree_may id (Damaged place) h = inr (id, h)
  tree_may id (Missing other) h = tt
  tree_may id (BadTree other at) h = tt
  tree_may id (TooLarge path size) h = inr (inl ([], inr (inl (id, h))))
  tree_may id fault h = absurd h

  over_may : (fault : Fault) → MayWalkTrees (repo_of root) fault → MayView tells root fault
  over_may fault (inl h) = tree_may h.0 fault h.1
  over_may (TooLarge path size) (inr h) = inr (inl ([], inr (inr h)))
  over_may fault (inr h) = absurd h

  pub flatten_may : (id : List ℕ) (fault : Fault) → MayFlatten (repo_of root) id fault → MayView tells root fault
  flatten_may id fault (inl h) = commit_may id fault h
  flatten_may id fault (inr h) = over_may fault h

  blob_may : (id : Id) (exec : Bool) (fault : Fault) → MayGetBody (repo_of root) id.0 fault → MayView tells root fault
  blob_may id exec (Damaged place) h = inr (id.0, h)
  blob_may id exec (Missing other) h = tt
  blob_may id exec (TooLarge path size) h = inr (inr (inl (record { path = []; leaf = Git id exec } ∷ [], inl h)))
  blob_may id exec fault h = absurd h

  leaf_may : (leaf : Leaf) (fault : Fault) → MayPointAt (repo_of root) leaf fault → MayView tells root fault
  leaf_may (Git id exec) fault h = blob_may id exec fault h
  leaf_may (Link id) fault h = absurd h
  leaf_may (Pin id) fault h = absurd h

  point_may : (list : List Entry) (fault : Fault) → MayPoint (repo_of root) list fault → MayView tells root fault
  point_may [] fault h = absurd h
  point_may (e ∷ es) fault (inl h) = leaf_may e.leaf fault h
  point_may (e ∷ es) fault (inr h) = point_may es fault h

  pub keeping_may : (commit : List ℕ) (fault : Fault) → MayReadKeeping (repo_of root) commit fault → MayView tells root fault
  keeping_may commit (UnsupportedMode path) h = tt
  keeping_may commit fault (inl h) = flatten_may commit fault h
  keeping_may commit fault (inr h) = point_may h.0 fault h.1

  walk_may : (fault : Fault) → MayWalk tells root fault → MayView tells root fault
  walk_may (OddKind path) h = h
  walk_may (Dirty path) h = h.1
  walk_may (TooLarge path size) h = inr (inr (inr h))
  walk_may fault h = absurd h

  pub files_may : (fault : Fault) → MayReadFiles tells root fault → MayView tells root fault
  files_may (Dirty path) h = h
  files_may fault h = walk_may fault h

-- WHAT FILES ARE KEPT BY: HEAD's snapshot, and its pointers
module _ (tells : Bool) (repo : Names) (commit : List ℕ) (to_git : Bool) where
  flat_keeping : (fault : Fault) → MayFlatten repo commit fault → MayReadKeeping repo commit fault
  flat_keeping (UnsupportedMode path) h = tt
  flat_keeping fault h = inl h

  point_keeping : (list : List Entry) (fault : Fault) → MayPoint repo list fault → MayReadKeeping repo commit fault
  point_keeping list (UnsupportedMode path) h = tt
  point_keeping list fault h = inr (list, h)

  -- no other fault comes of pins
  pin_keeping : (old : List Entry) (fault : Fault) → pin_fault old ≡ Some fault → MayReadKeeping repo commit fault
  pin_keeping [] fault e = absurd (cc e)
  pin_keeping (entry ∷ list) fault e = by entry.leaf refl (pin_keeping list fault)
    where
      some_is : (path : List ℕ) → Some (UnsupportedMode path) ≡ Some fault → UnsupportedMode path ≡ fault
      some_is path e = cc e

      first_is : (leaf : Leaf) → entry.leaf ≡ leaf → pin_fault (record { path = entry.path; leaf = leaf } ∷ list) ≡ Some fault
      first_is leaf is = sym (ap (λ (l : Leaf). pin_fault (record { path = entry.path; leaf = l } ∷ list)) is) ∙ e

      by : (leaf : Leaf) → entry.leaf ≡ leaf → (pin_fault list ≡ Some fault → MayReadKeeping repo commit fault) → MayReadKeeping repo commit fault
      by (Git id exec) is rest = rest (first_is (Git id exec) is)
      by (Link id) is rest = rest (first_is (Link id) is)
      by (Pin id) is rest = subst (λ (f : Fault). MayReadKeeping repo commit f) (some_is entry.path (first_is (Pin id) is)) tt

  abbrev pub KeepingReads : Drive → Drive → Result KeepBy Trouble → Type 0
  KeepingReads old new result =
      Reads (λ fault. MayReadKeeping repo commit fault) tells (λ g by. IsKeeping repo g commit to_git by) (λ g fault. IsNoKeeping repo g commit fault) old new result

  abbrev FlatReads : Drive → Drive → Result (List Entry) Trouble → Type 0
  FlatReads old new result =
      Reads (λ fault. MayFlatten repo commit fault) tells (λ g list. IsFlat repo commit g list) (λ g fault. IsFlattenFault repo commit g fault) old new result

  abbrev PointReads : List Entry → Drive → Drive → Result (Vec Pointer Global) Trouble → Type 0
  PointReads list old new result =
      Reads (λ fault. MayPoint repo list fault) tells (λ g pointers. ArePointed repo list g pointers.items) (λ g fault. pointers_fault repo list g ≡ Some fault) old new result

  pub flat_fails : {old new : Drive} {e : Trouble} → FlatReads old new (Err e) → KeepingReads old new (Err e)
  flat_fails flat = read_err flat_keeping (λ fault h. inl h) flat

  module _ {old mid : Drive} {list : List Entry} (flat : FlatReads old mid (Ok list)) where
    pub pin_fails : (fault : Fault) → pin_fault list ≡ Some fault → KeepingReads old mid (Err (Refused fault))
    pin_fails fault e = read_refuses (pin_keeping list fault e) flat.later (λ t. (
      (flat.told t).same,
      inr (list, (flat.told t).answer, ap (λ (o : Option Fault). or_next o (pointers_fault repo list (present old))) e),
    ))

    module _ (none : pin_fault list ≡ None) {new : Drive} where
      pub point_fails : {e : Trouble} → PointReads list mid new (Err e) → KeepingReads old new (Err e)
      point_fails points = read_fails (point_keeping list) flat.later (λ t. (flat.told t).same)
          (λ t fault h. inr (list, (flat.told t).answer, ap (λ (o : Option Fault). or_next o (pointers_fault repo list (present old))) none ∙ h)) points

      pub keeping_gives : (pointers : Vec Pointer Global) → PointReads list mid new (Ok pointers) → KeepingReads old new (Ok (record { old = list; pointers = pointers.items; to_git = to_git }))
      keeping_gives pointers points =
          let all = read_after {IsAnswer = λ g (pointers : Vec Pointer Global). ArePointed repo list g pointers.items} flat.later (λ t. (flat.told t).same) points in
          read_gives all.later (λ t. ((all.told t).same, record { flat = (flat.told t).answer; plain = none; pointed = (all.told t).answer; asks = refl }))

-- THE WORKING FILES
module _ (tells : Bool) (root : Names) (by : KeepBy) where
  walk_files : (fault : Fault) → MayWalk tells root fault → MayReadFiles tells root fault
  walk_files (Dirty path) h = h.1
  walk_files fault h = h

  abbrev pub FilesRead : Drive → Drive → Result (Vec WorkingFile Global) Trouble → Type 0
  FilesRead old new result =
      Reads (λ fault. MayReadFiles tells root fault) tells (λ g list. AreFiles root g by list.items) (λ g fault. walk_fault (limit_by by) root g ≡ Some fault) old new result

  abbrev WorkReads : Drive → Drive → Result (Vec (List ℕ) Global) Trouble → Type 0
  WorkReads old new result =
      Reads (λ fault. MayWalk tells root fault) tells (λ g list. AreWorking (limit_by by) root g list.items) (λ g fault. walk_fault (limit_by by) root g ≡ Some fault) old new result

  pub work_fails : {old new : Drive} {e : Trouble} → WorkReads old new (Err e) → FilesRead old new (Err e)
  work_fails work = read_err walk_files (λ fault h. h) work

  module _ {old mid : Drive} {paths : Vec (List ℕ) Global} (work : WorkReads old mid (Ok paths)) where
    -- files that tell are never refused for their paths
    pub order_fails : (path : List ℕ) → (ArePaths paths.items → ⊥) → FilesRead old mid (Err (Refused (Dirty path)))
    order_fails path disordered =
        let untold : IsTrue tells → ⊥ = λ t. disordered (told_paths (limit_by by) root (present old) paths.items (work.told t).answer) in
        read_refuses untold work.later (λ t. absurd (untold t))

    there : IsTrue tells → AreThere root by (present old) paths.items
    there t = told_there root (present old) by paths.items (work.told t).answer

    keep_files : (fault : Fault) → MayKeepFiles tells root by (present mid) paths.items fault → MayReadFiles tells root fault
    keep_files (Dirty path) h = λ t. h t (subst (λ (g : Ground). AreThere root by g paths.items) (sym (ap (λ (h : History). h.latest.now) (work.told t).same)) (there t))
    keep_files fault h = absurd h

    module _ {new : Drive} where
      pub files_end : (r : Result (Vec WorkingFile Global) Trouble) → FilesKeep tells root by paths.items mid new r → FilesRead old new r
      files_end (Err e) keeps = read_fails keep_files work.later (λ t. (work.told t).same) (λ t fault gone. absurd (gone (there t))) keeps
      files_end (Ok list) keeps =
          let all = read_after {IsAnswer = λ g (list : Vec WorkingFile Global). AreThere root by g paths.items → AreKeptFiles root g by (map (work_of root g) paths.items) list.items} work.later (λ t. (work.told t).same) keeps in
          read_gives all.later (λ t.
          let g = present old in
          let works : map (work_of root g) paths.items ≡ working root g = told_works root g by paths.items (work.told t).answer in
          ((all.told t).same, ((work.told t).answer.0, subst (λ (z : List WorkFile). AreKeptFiles root g by z list.items) works ((all.told t).answer (there t)))))

-- THE READINGS, one after the other
module _ (tells : Bool) (root : Names) (to_git : Bool) where
  abbrev ViewReads : Drive → Drive → Result View Trouble → Type 0
  ViewReads old new result =
      Reads (λ fault. MayView tells root fault) tells (λ g view. IsView root to_git g view) (λ g fault. IsUnread root to_git g fault) old new result

  pub tip_fails : {old new : Drive} {e : Trouble} → TipReads tells (repo_of root) old new (Err e) → ViewReads old new (Err e)
  tip_fails reads = read_err (tip_may tells root) (λ fault h. inl h) reads

  -- a tip, and why no snapshot is read at it
  no_keeping : (g : Ground) (parent : List ℕ) (fault : Fault) → IsTipAt (repo_of root) g (record { 0 = parent }) → IsNoKeeping (repo_of root) g parent fault → IsUnread root to_git g fault
  no_keeping g parent fault tip (inl fails) = inr (parent, tip, inl fails)
  no_keeping g parent fault tip (inr (old, flat, why)) = inr (parent, tip, inr (old, flat, inl why))

  module _ {old mid new : Drive} {parent : Id} (tip : TipReads tells (repo_of root) old mid (Ok parent)) where
    pub keeping_fails : {e : Trouble} → KeepingReads tells (repo_of root) parent.0 to_git mid new (Err e) → ViewReads old new (Err e)
    keeping_fails keeping =
        read_fails (keeping_may tells root parent.0) tip.later (λ t. (tip.told t).same)
        (λ t fault h. no_keeping (present old) parent.0 fault (tip.told t).answer h) keeping

    module _ {by : KeepBy} (keeping : KeepingReads tells (repo_of root) parent.0 to_git mid new (Ok by)) where
      -- both together, where the files tell
      both : IsTrue tells → (new.history ≡ old.history) × IsTipAt (repo_of root) (present old) parent × IsKeeping (repo_of root) (present old) parent.0 to_git by
      both t =
          let was = read_after {IsAnswer = λ g by. IsKeeping (repo_of root) g parent.0 to_git by} tip.later (λ t. (tip.told t).same) keeping in
          ((was.told t).same, (tip.told t).answer, (was.told t).answer)

      stood : new.faults ≡ old.faults
      stood = omega (arith, tip.later, keeping.later)

      walk_refused : (g : Ground) (fault : Fault) → IsKeeping (repo_of root) g parent.0 to_git by → walk_fault (limit_by by) root g ≡ Some fault → IsWalkRefused root to_git g by.old fault
      walk_refused g fault keeps fails =
          let asked : by ≡ record { old = by.old; pointers = by.pointers; to_git = to_git } = λ i. record { old = by.old; pointers = by.pointers; to_git = keeps.asks i } in
          record {
            pointers = by.pointers;
            plain = keeps.plain;
            pointed = keeps.pointed;
            walk = subst (λ (z : KeepBy). walk_fault (limit_by z) root g ≡ Some fault) asked fails;
          }

      module _ {last : Drive} where
        pub files_fail : {e : Trouble} → FilesRead tells root by new last (Err e) → ViewReads old last (Err e)
        files_fail files = read_fails (files_may tells root) stood (λ t. (both t).0) (λ t fault h.
            let was = both t in
            inr (parent.0, was.1, inr (by.old, was.2.flat, inr (walk_refused (present old) fault was.2 h)))) files

        pub view_gives : (list : Vec WorkingFile Global) → FilesRead tells root by new last (Ok list) → ViewReads old last (Ok (record { parent = parent; by = by; files = list }))
        view_gives list files =
            let all = read_after {IsAnswer = λ g (list : Vec WorkingFile Global). AreFiles root g by list.items} stood (λ t. (both t).0) files in
            read_gives all.later (λ t.
            let was = both t in
            let now = (all.told t).answer in (
              (all.told t).same,
              record {
                tip = was.1;
                flat = was.2.flat;
                plain = was.2.plain;
                pointed = was.2.pointed;
                asks = was.2.asks;
                walk = now.0;
                kept = now.1;
              },
            ))
