-- The plan of what was looked at: its readings, one after the other, and what comes of them.
use Rattle.std.proofs.Common.{◌≡◌, ◌≤◌, inl, inr, ℕ, Bool, true, false, cond, IsTrue, List, [], ◌∷◌, ◌++◌, map, length, Option, None, Some, Result, Ok, Err, Vec, refl, sym, ap, ◌∙◌, subst, arith}
use Rattle.std.specs.declared.alloc.Global.{Global}
use Rattle.std.specs.Prelude.{IfOk, IfErr, nat_lt}
use Rattle.std.specs.List.{AllByRecursion, filter}
use Rattle.std.proofs.lemmas.Bool.{ltb-false}
use Rattle.places.specs.All.{Names, slash, text_of, Ground, IsGround}
use Rattle.faults.specs.declared.faults.Fault.{Fault}
use Rattle.faults.specs.declared.faults.Trouble.{Trouble}
use Rattle.faults.specs.declared.faults.Fault.TheVariants.{BadLine, TooLarge, Dirty, PathClash}
use Rattle.faults.specs.declared.faults.Trouble.TheVariants.{Refused, Device, NoMemory}
use Rattle.file_store.specs.All.{Drive, History, present, or_next}
use Rattle.git_objects.specs.declared.objects.ObjKind.TheVariants.{Commit}
use Rattle.config_text.specs.All.{plain_config}
use Rattle.config_text.specs.declared.repository.RepoConfig.{RepoConfig}
use Rattle.repository.specs.All.{repo_of, object_limit, large}
use Rattle.acts.specs.All.{NoFault, Reads}
use Rattle.acts.proofs.Reading.{read_after, read_err, read_gives, read_refuses, read_starves}
use Rattle.index_store.specs.All.{HasIndex}
use Rattle.object_store.specs.All.{get_fault}
use Rattle.object_store.specs.declared.objects.NewObject.{NewObject}
use Rattle.snapshot.specs.All.{Has, IsLeastClash}
use Rattle.snapshot.specs.declared.entries.Entry.{Entry}
use Rattle.tree_status.specs.All.{IsView, KeepBy, WorkFile, added, is_new, limit_by, new_entries}
use Rattle.tree_status.specs.declared.found.WorkingFile.{WorkingFile}
use Rattle.recursive_save.specs.Blobs.{AreBlobs, AreThere, BlobsRead, IsThereBy, MayReadBlobs}
use Rattle.recursive_save.specs.Configured.{ConfigReads, IsUnconfigured, MayConfigure}
use Rattle.recursive_save.specs.Planned.{IsPlannedOf, IsPlanRefusal, IsPlanWith, MayPlan}
use Rattle.recursive_save.specs.Planned.{PlanFails, plan_of}
use Rattle.recursive_save.specs.Saving.{blob_of, blobs_in, new_blobs, plan_fault, save_commit, sum_fault}
use Rattle.recursive_save.specs.declared.planning.Planned.{Planned}
use Rattle.tree_status.specs.declared.viewing.View.{View}
use Rattle.recursive_save.specs.declared.wishes.SaveWish.{SaveWish}
use Rattle.tree_status.proofs.Readings.{read_fails}
use Rattle.tree_status.proofs.Standing.{IsStanding, none_above}
use Rattle.recursive_save.proofs.There.{AreOf, are_of, are_there}

present_is : (old new : Drive) → new.history ≡ old.history → present new ≡ present old
present_is old new same = ap (λ (h : History). h.latest.now) same

each_picked : {A : Type 0} (P : A → Type 0) (p : A → Bool) (xs : List A) → AllByRecursion P xs → AllByRecursion P (filter p xs)
each_picked P p [] h = tt
each_picked P p (x ∷ xs) h = by (p x) (each_picked P p xs h.1)
  where
    by : (b : Bool) → AllByRecursion P (filter p xs) → AllByRecursion P (cond b (x ∷ filter p xs) (filter p xs))
    by true rest = (h.0, rest)
    by false rest = rest

-- objects have places in a repository whose commit was read
fits_by : (repo : Names) (commit : List ℕ) (g : Ground) → get_fault repo commit g ≡ None → length (text_of repo) ≤ object_limit
unfolding get_fault
fits_by repo commit g e = by (nat_lt object_limit (length (text_of repo))) _ refl e
  where
    by : (b : Bool) (other : Option Fault) → nat_lt object_limit (length (text_of repo)) ≡ b → cond b (large repo) other ≡ None → length (text_of repo) ≤ object_limit
    by true other is e = absurd (cc e)
    by false other is e = ltb-false object_limit (length (text_of repo)) is

-- NO CLASH among files that stand
module _ (root : Names) (g : Ground) (by : KeepBy) where
  record StandsAt (path : List ℕ) : Type 0 where
    work : WorkFile
    standing : IsStanding (limit_by by) root g work
    path_is : path ≡ work.0

  has_file : (files : List WorkingFile) (entry : Entry) → AreOf root g by files → Has (new_entries by.old files) entry → StandsAt entry.path
  has_file [] entry of has = absurd has
  has_file (file ∷ files) entry of (inl is) =
      record { work = of.0.work; standing = of.0.standing; path_is = ap (λ (e : Entry). e.path) (sym is) ∙ of.0.kept.path }
  has_file (file ∷ files) entry of (inr has) = has_file files entry of.1 has

  no_clash : (files : List WorkingFile) (path : List ℕ) → IsGround g → AreOf root g by files → IsLeastClash (new_entries by.old files) path → ⊥
  no_clash files path ground_is of clash =
      let below = clash.below in
      let one = has_file files clash.entry of clash.has in
      let next = has_file files below.0 of below.1 in
      none_above (limit_by by) root g ground_is one.work next.work below.2.0 one.standing next.standing
      (sym next.path_is ∙ below.2.1 ∙ ap (λ (p : List ℕ). p ++ slash ∷ below.2.0) (sym clash.same ∙ one.path_is))

-- the same snapshot by another name
pub snapshot_as : {a b : List Entry} (r : Result Planned Trouble) → a ≡ b → IfOk r (λ planned. planned.snapshot ≡ a) → IfOk r (λ planned. planned.snapshot ≡ b)
snapshot_as (Ok planned) is h = h ∙ is
snapshot_as (Err e) is h = h

-- FAULTS
module _ (tells : Bool) (root : Names) where
  pub config_may : (fault : Fault) → MayConfigure root fault → MayPlan tells root fault
  config_may (BadLine place line) h = h
  config_may (TooLarge path size) h = inl h
  config_may fault h = absurd h

  blobs_may : (g : Ground) (files : List WorkingFile) → (IsTrue tells → AreThere root g files) → (fault : Fault) → MayReadBlobs tells root g files fault → MayPlan tells root fault
  blobs_may g files there (TooLarge path size) h = inr h
  blobs_may g files there (Dirty path) h = λ t. h t (there t)
  blobs_may g files there fault h = absurd h

-- a configuration that isn't read
pub unconfigured : (root : Names) (wish : SaveWish) (view : View) (g : Ground) → IsView root wish.to_git g view → (fault : Fault) → IsUnconfigured root g fault → plan_fault root g view.by.old view.files.items ≡ Some fault
unconfigured root wish view g v fault h =
    ap (λ (o : Option Fault). or_next o (sum_fault 0 (new_blobs root g view.by.old view.files.items))) (h (fits_by (repo_of root) view.parent.0 g v.flat.whole))

-- READINGS
module _ (tells : Bool) (root : Names) (wish : SaveWish) (view : View) where
  abbrev PlanReads : Drive → Drive → Result Planned Trouble → Type 0
  PlanReads old new result =
      Reads (λ fault. MayPlan tells root fault) tells (λ g planned. IsPlannedOf root wish view g planned) (λ g fault. IsPlanRefusal root wish view g fault) old new result

  -- the blobs that are new
  abbrev blobs_at : Ground → List WorkFile
  blobs_at g = new_blobs root g view.by.old view.files.items

  pub config_fails : {old new : Drive} {e : Trouble} → ConfigReads tells root old new (Err e) → PlanReads old new (Err e)
  config_fails {old} reads = read_err (config_may tells root) (λ fault h v. unconfigured root wish view (present old) v fault h) reads

  -- the files that were picked are those that are new or changed
  module _ (files : List WorkingFile) (picked : files ≡ added view.by.old view.files.items) where
    picked_there : (g : Ground) → IsView root wish.to_git g view → AreThere root g files
    picked_there g v =
        subst (AreThere root g) (sym picked) (each_picked (λ file. IsThereBy file.kept root g file) (is_new view.by.old) view.files.items
        (are_there root g view.by view.files.items (are_of root g view.by wish.to_git view.parent.0 view.files.items v)))

    there_now : (old mid : Drive) → (IsTrue tells → mid.history ≡ old.history) → (IsTrue tells → IsView root wish.to_git (present old) view) → IsTrue tells → AreThere root (present mid) files
    there_now old mid same looked t = subst (λ (g : Ground). AreThere root g files) (sym (present_is old mid (same t))) (picked_there (present old) (looked t))

    blobs_are : (g : Ground) → blobs_in root g files ≡ blobs_at g
    blobs_are g = ap (blobs_in root g) picked

    module _ {old mid new : Drive} {config : RepoConfig} (looked : IsTrue tells → IsView root wish.to_git (present old) view) (reads : ConfigReads tells root old mid (Ok config)) where
      pub blobs_fail : {e : Trouble} → BlobsRead tells root files mid new (Err e) → PlanReads old new (Err e)
      blobs_fail blobs = read_fails (blobs_may tells root (present mid) files (there_now old mid (λ t. (reads.told t).same) looked)) reads.later (λ t. (reads.told t).same)
          (λ t fault h v.
          ap (λ (o : Option Fault). or_next o (sum_fault 0 (blobs_at (present old)))) (reads.told t).answer.whole
          ∙ ap (sum_fault 0) (sym (blobs_are (present old))) ∙ h (picked_there (present old) v))
          blobs

      module _ {blobs : Vec NewObject Global} (put : BlobsRead tells root files mid new (Ok blobs)) where
        stood : new.faults ≡ old.faults
        stood = omega (arith, reads.later, put.later)

        both : (t : IsTrue tells) → (new.history ≡ old.history) × (AreThere root (present old) files → AreBlobs root (present old) files blobs.items)
        both t =
            let was = (read_after {IsAnswer = λ g (objects : Vec NewObject Global). AreThere root g files → AreBlobs root g files objects.items} reads.later (λ t. (reads.told t).same) put).told t in
            (was.same, was.answer)

        planned_is : (t : IsTrue tells) (planned : Planned) → IsPlanWith (plain_config config) view wish blobs.items (plan_of planned) → planned.uuid ≡ config.uuid → planned.snapshot ≡ new_entries view.by.old view.files.items
            → HasIndex root (new_entries view.by.old view.files.items) (present old) planned.indexed → IsPlannedOf root wish view (present old) planned
        planned_is t planned m own new_is index_is v =
            let g = present old in
            let configured = (reads.told t).answer in
            let is = (both t).1 (picked_there g v) in (
              ap (λ (o : Option Fault). or_next o (sum_fault 0 (blobs_at g))) configured.whole ∙ ap (sum_fault 0) (sym (blobs_are g)) ∙ is.few,
              record {
                settings = configured.text;
                config = plain_config config;
                tree = m.tree;
                trees = m.trees;
                stands = configured.stands;
                configured = configured.configured;
                built = m.built;
                objects = m.objects ∙ ap (λ (list : List NewObject). list ++ m.trees ++ record { kind = Commit; body = save_commit (plain_config config) wish m.tree view.parent.0 } ∷ []) (is.same ∙ ap (map blob_of) (blobs_are g));
                commit = m.commit;
                fields = m.body.fields;
                text = m.body.text;
                tree_is = m.body.tree_is;
                parent_is = m.body.parent_is;
                lines = m.lines;
              },
              record {
                snapshot = new_is;
                index = index_is;
                uuid = record { text = configured.text; config = plain_config config; stands = configured.stands; read = configured.configured; own = sym own };
              },
            )

        -- the index
        abbrev Indexed : Drive → Result Bool Trouble → Type 0
        Indexed last r = Reads (λ fault. NoFault fault) tells (λ g is. HasIndex root (new_entries view.by.old view.files.items) g is) (λ g fault. ⊥) new last r

        pub index_fails : {last : Drive} {e : Trouble} → Indexed last (Err e) → PlanReads old last (Err e)
        index_fails reads = read_fails (λ fault may. absurd may) stood (λ t. (both t).0) (λ t fault none. absurd none) reads

        -- the snapshot that isn't made
        pub starved_plan : PlanReads old new (Err NoMemory)
        starved_plan = read_starves stood (λ t. (both t).0)

        module _ {last : Drive} {indexed : Bool} (reads_index : Indexed last (Ok indexed)) where
          stood_too : last.faults ≡ old.faults
          stood_too = omega (arith, stood, reads_index.later)

          same_too : IsTrue tells → last.history ≡ old.history
          same_too t = (reads_index.told t).same ∙ (both t).0

          -- what the plan says of it
          record SaysIndex (planned : Planned) : Type 0 where
            snapshot : planned.snapshot ≡ new_entries view.by.old view.files.items
            indexed_is : planned.indexed ≡ indexed

          has_it : (t : IsTrue tells) (planned : Planned) → SaysIndex planned → HasIndex root (new_entries view.by.old view.files.items) (present old) planned.indexed
          has_it t planned says =
              subst (λ b. HasIndex root (new_entries view.by.old view.files.items) (present old) b) (sym says.indexed_is)
              (subst (λ (g : Ground). HasIndex root (new_entries view.by.old view.files.items) g indexed) (present_is old new (both t).0) (reads_index.told t).answer)

          pub plan_ends : (IsTrue tells → IsGround (present old)) → (r : Result Planned Trouble) → IfOk r (λ planned. IsPlanWith (plain_config config) view wish blobs.items (plan_of planned)) → IfOk r (λ planned. planned.uuid ≡ config.uuid)
              → IfOk r (λ planned. planned.snapshot ≡ new_entries view.by.old view.files.items) → IfOk r (λ planned. planned.indexed ≡ indexed) → IfErr r (PlanFails view) → PlanReads old last r
          plan_ends grounded (Ok planned) made own new_is has_is fails = read_gives stood_too (λ t. (same_too t, planned_is t planned made own new_is (has_it t planned (record { snapshot = new_is; indexed_is = has_is }))))
          plan_ends grounded (Err NoMemory) made own new_is has_is fails = read_starves stood_too same_too
          plan_ends grounded (Err (Refused (PathClash path))) made own new_is has_is fails =
              let not : IsTrue tells → ⊥ = λ t.
              no_clash root (present old) view.by view.files.items path (grounded t) (are_of root (present old) view.by wish.to_git view.parent.0 view.files.items (looked t)) fails in
              read_refuses not stood_too (λ t. absurd (not t))
          plan_ends grounded (Err (Refused fault)) made own new_is has_is fails = absurd fails
          plan_ends grounded (Err Device) made own new_is has_is fails = absurd fails
