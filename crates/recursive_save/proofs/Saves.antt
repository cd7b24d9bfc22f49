-- The save of a dataset: its refusals, and its acts.
use Rattle.std.proofs.Common.{◌≡◌, inl, inr, ℕ, Bool, true, false, IsTrue, cond, List, [], ◌∷◌, ◌++◌, Option, None, Some, Result, Ok, Err, refl, sym, ap, ◌∙◌, subst, arith}
use Rattle.std.specs.Prelude.{codes, bytes_eq, ◌&&◌, ◌||◌, not}
use Rattle.places.specs.All.{Names, Ground}
use Rattle.places.proofs.Texts.{or_neither}
use Rattle.file_store.specs.All.{or_next, Drive, History, present}
use Rattle.faults.specs.declared.lines.Line.{Line}
use Rattle.faults.specs.declared.faults.Fault.{Fault}
use Rattle.faults.specs.declared.faults.Trouble.{Trouble}
use Rattle.faults.specs.declared.faults.Fault.TheVariants.{TooLarge, Blocked, Damaged, Missing}
use Rattle.faults.specs.declared.faults.Fault.TheVariants.{BadTree, BadCommit, UnsupportedMode}
use Rattle.faults.specs.declared.faults.Fault.TheVariants.{OddKind, Dirty, PathClash, BadLine}
use Rattle.faults.specs.declared.faults.Fault.TheVariants.{Collision, BadLog, TimeFull}
use Rattle.faults.specs.declared.faults.Trouble.TheVariants.{Refused, Device, NoMemory}
use Rattle.git_objects.specs.All.{oid}
use Rattle.git_objects.specs.declared.ids.Id.{Id}
use Rattle.config_text.specs.All.{plain_config}
use Rattle.config_text.specs.declared.repository.RepoConfig.{RepoConfig}
use Rattle.repository.specs.All.{repo_of, repo_head, is_repo}
use Rattle.repository.proofs.Unfinished.{repo_below}
use Rattle.acts.specs.All.{Act, Acts, ActsAs, ActsQuietly, Breaks, Ending, EndsRefused, Gives, Goes, HasCause, NoFault}
use Rattle.acts.specs.All.{Reads, Refuses, Step, bind}
use Rattle.acts.proofs.Laws.{seq, fails, handed, by_name, done, passes, quiet, after_reading}
use Rattle.acts.proofs.Folds.{said_each}
use Rattle.acts.proofs.As.{as_allowed, as_starved, as_refused, as_unread}
use Rattle.annex_store.specs.All.{AreOutside, IsKeepAll, KeepAllEnds, MayKeepAll, MayKeepMember}
use Rattle.annex_store.specs.declared.members.NewContent.{NewContent}
use Rattle.index_store.specs.All.{HasIndex, MaySetIndex, keeps_index}
use Rattle.object_store.specs.All.{IsFoundAmong, MayPut, object_text, puts_objects, IsFound}
use Rattle.object_store.specs.declared.objects.NewObject.{NewObject}
use Rattle.ref_store.specs.All.{damaged_unless, head_at, sets_tip, lead_fault, MaySetTip}
use Rattle.snapshot.specs.declared.entries.Entry.{Entry}
use Rattle.tree_status.specs.All.{IsUnread, IsView, MayView, IsRepo, added, deleted, is_changed, is_nothing}
use Rattle.tree_status.specs.All.{is_other, lacking}
use Rattle.tree_status.specs.declared.found.WorkingFile.{WorkingFile}
use Rattle.tree_status.specs.declared.viewing.View.{View}
use Rattle.tree_status.proofs.Statuses.{long_seen}
use Rattle.recursive_save.specs.Configured.{ConfigReads}
use Rattle.recursive_save.specs.Contents.{ContentsFail, HaveSources, contents}
use Rattle.recursive_save.specs.Planned.{IsPlannedOf, IsPlanRefusal, MayPlan, plan_of}
use Rattle.recursive_save.specs.Saving.{MaySave, IsSave, IsWritten, SavePlan, unread, clashing, clean, unplanned, kept, saved}
use Rattle.recursive_save.specs.Saving.{blobs_in, clash_with, clash_fault, dataset_line, plan_fault, save_lines}
use Rattle.recursive_save.specs.Saving.{saves, saves_contents, saves_lines, settings_fault, sum_fault}
use Rattle.recursive_save.specs.Saving.{writes}
use Rattle.recursive_save.specs.declared.planning.Planned.{Planned}
use Rattle.recursive_save.specs.declared.wishes.SaveWish.{SaveWish}
use Rattle.recursive_save.proofs.Following.{as_after, as_fails, as_mapped, as_seq, one_act}
use Rattle.recursive_save.proofs.Handed.{as_put}
use Rattle.recursive_save.proofs.KeepEnds.{EndsBy, NotDirty, never_dirty}
use Rattle.recursive_save.proofs.PlanFacts.{config_may, unconfigured}
use Rattle.recursive_save.proofs.Sources.{have_sources}
use Rattle.recursive_save.proofs.There.{are_below, are_of}

-- THE FAULTS
view_may : (tells : Bool) (root : Names) (fault : Fault) → MayView tells root fault → MaySave tells root fault
view_may tells root (Damaged place) may = may
view_may tells root (Missing id) may = tt
view_may tells root (BadTree id at) may = tt
view_may tells root (BadCommit id at) may = tt
view_may tells root (TooLarge path size) may = inl may
view_may tells root (UnsupportedMode path) may = tt
view_may tells root (OddKind path) may = may
view_may tells root (Dirty path) may = may
view_may tells root fault may = absurd may

plan_may : (tells : Bool) (root : Names) (fault : Fault) → MayPlan tells root fault → MaySave tells root fault
plan_may tells root (BadLine place line) may = may
plan_may tells root (TooLarge path size) (inl text) = inr (inl text)
plan_may tells root (TooLarge path size) (inr over) = inr (inr (inl over))
plan_may tells root (Dirty path) may = may
plan_may tells root (PathClash path) may = may
plan_may tells root fault may = absurd may

-- a collision is one
module _ (tells : Bool) (root : Names) (fault : Fault) where
  chosen_may : (b : Bool) (id : List ℕ) (rest : Option Fault) → (rest ≡ Some fault → MaySave tells root fault) → cond b (Some (Collision id)) rest ≡ Some fault → MaySave tells root fault
  chosen_may true id rest more e =
      let same : Collision id ≡ fault = cc e in
      subst (MaySave tells root) same tt
  chosen_may false id rest more e = more e

  next_may : (o rest : Option Fault) → (o ≡ Some fault → MaySave tells root fault) → (rest ≡ Some fault → MaySave tells root fault) → or_next o rest ≡ Some fault → MaySave tells root fault
  next_may None rest first more e = more e
  next_may (Some own) rest first more e = first e

  with_may : (before : List NewObject) (object : NewObject) → clash_with before object ≡ Some fault → MaySave tells root fault
  with_may [] object is = absurd (cc is)
  with_may (one ∷ more) object is =
      chosen_may (bytes_eq (oid one.kind one.body) (oid object.kind object.body) && not (bytes_eq (object_text one) (object_text object)))
      (oid object.kind object.body) (clash_with more object) (with_may more object) is

  clash_may : (before objects : List NewObject) → clash_fault before objects ≡ Some fault → MaySave tells root fault
  clash_may before [] is = absurd (cc is)
  clash_may before (object ∷ objects) is =
      next_may (clash_with before object) (clash_fault (before ++ object ∷ []) objects) (with_may before object) (clash_may (before ++ object ∷ []) objects) is

among : (P : Type 0) (repo : Names) (fault : Fault) → ((object : NewObject) → IsFound repo object fault → P) → (objects : List NewObject) → IsFoundAmong repo objects fault → P
among P repo fault each [] found = absurd found
among P repo fault each (object ∷ objects) (inl here) = each object here
among P repo fault each (object ∷ objects) (inr there) = among P repo fault each objects there

put_may : (tells : Bool) (root : Names) (objects : List NewObject) (fault : Fault) → MayPut tells (repo_of root) objects fault → MaySave tells root fault
put_may tells root objects (TooLarge path size) may = inr (inr (inr (inr may)))
put_may tells root objects (Blocked at) may = may
put_may tells root objects (Collision id) may = tt
put_may tells root objects (Damaged place) may =
    among (MaySave tells root (Damaged place)) (repo_of root) (Damaged place) (λ object is. inr (oid object.kind object.body, is)) objects may
put_may tells root objects fault may = among (MaySave tells root fault) (repo_of root) fault (λ object none. absurd none) objects may

tip_may : (tells : Bool) (root : Names) (fault : Fault) → MaySetTip tells (repo_of root) fault → MaySave tells root fault
tip_may tells root (Damaged place) may = inl (None, tt, may)
tip_may tells root (TooLarge path size) (inl over) = inl (inl (repo_head (repo_of root), (None, tt, refl), over))
tip_may tells root (TooLarge path size) (inr over) = inr (inr (inr (inr over)))
tip_may tells root (Blocked at) may = may
tip_may tells root fault may = absurd may

index_may : (tells : Bool) (root : Names) (fault : Fault) → MaySetIndex tells root fault → MaySave tells root fault
index_may tells root (TooLarge path size) may = inr (inr (inr (inr may)))
index_may tells root (Blocked at) may = may
index_may tells root fault may = absurd may

-- THE WRITING of a plan
module _ (tells : Bool) (root : Names) where
  abbrev pub Writing : {V : Type 0} → Step V → List Line → List Line → Drive → Drive → Result V Trouble → Type 0
  Writing step l0 l1 d0 d1 r = Acts (λ fault. MaySave tells root fault) tells step l0 l1 d0 d1 r

  -- the objects
  pub puts_them : {repo : Names} {given objects : List NewObject} {l : List Line} {old new : Drive} {r : Result (Unit {0}) Trouble} → repo ≡ repo_of root → given ≡ objects
      → (IsTrue (is_repo repo) → ActsQuietly (λ fault. MayPut tells repo given fault) tells (puts_objects repo given) old new r)
      → Writing (puts_objects (repo_of root) objects) l l old new r
  puts_them {repo} {given} {objects} at is acts =
      quiet (handed (λ fault may. put_may tells root objects fault (subst (λ (p : Names). MayPut tells p objects fault) at may)) (as_put root at is acts))

  -- the tip
  pub sets_it : {repo : Names} (id : List ℕ) {l : List Line} {old new : Drive} {r : Result (Unit {0}) Trouble} → repo ≡ repo_of root
      → (IsTrue (is_repo repo) → ActsQuietly (λ fault. MaySetTip tells repo fault) tells (sets_tip repo id) old new r)
      → Writing (sets_tip (repo_of root) id) l l old new r
  sets_it {repo} id at acts =
      quiet (handed (λ fault may. tip_may tells root fault (subst (λ (p : Names). MaySetTip tells p fault) at may))
      (by_name (λ i. sets_tip (at i) id) (acts (ap is_repo at ∙ repo_below root))))

  -- the index
  pub indexes_it : (indexed : Bool) {given list : List Entry} {l : List Line} {old new : Drive} {r : Result (Unit {0}) Trouble} → given ≡ list
      → ActsQuietly (λ fault. MaySetIndex tells root fault) tells (keeps_index indexed root given) old new r → Writing (keeps_index indexed root list) l l old new r
  indexes_it indexed is acts = quiet (handed (λ fault may. index_may tells root fault may) (by_name (λ i. keeps_index indexed root (is i)) acts))

  -- lines that are said after it
  pub says_then : {index : Step (Unit {0})} (lines : List Line) {l m : List Line} {old new : Drive} → Writing index l l old new (Ok tt) → m ≡ l ++ lines → Writing (saves_lines index lines) l m old new (Ok None)
  unfolding saves_lines
  says_then lines indexing said = seq _ indexing (seq _ (said_each lines said) done)

  pub not_indexed : {index : Step (Unit {0})} (lines : List Line) {l : List Line} {old new : Drive} {e : Trouble} → Writing index l l old new (Err e) → Writing (saves_lines index lines) l l old new (Err e)
  unfolding saves_lines
  not_indexed lines indexing = fails _ indexing

-- whether the index is that of a list, read where nothing has been written
abbrev pub Indexed : Bool → Names → List Entry → Drive → Drive → Result Bool Trouble → Type 0
Indexed tells root entries d0 d1 r = Reads (λ fault. NoFault fault) tells (λ g is. HasIndex root entries g is) (λ g fault. ⊥) d0 d1 r

pub of_list : {tells : Bool} {root : Names} {given list : List Entry} {d0 d1 : Drive} {r : Result Bool Trouble} → given ≡ list → Indexed tells root given d0 d1 r → Indexed tells root list d0 d1 r
of_list {tells} {root} {given} {list} {d0} {d1} {r} is reads = subst (λ (z : List Entry). Indexed tells root z d0 d1 r) is reads

-- THE KEEPING of contents
member_may : (tells : Bool) (root : Names) (x : NewContent) (fault : Fault) → NotDirty fault → MayKeepMember (repo_of root) x fault → MaySave tells root fault
member_may tells root x (BadLog at line) pure may = (x.key, may)
member_may tells root x (TimeFull text) pure may = (x.key, may)
member_may tells root x (TooLarge path size) pure may = inr (inr (inr (inl (x.key, may))))
member_may tells root x (Dirty path) pure may = absurd pure
member_may tells root x fault pure may = absurd may

keep_may : (tells : Bool) (root : Names) (list : List NewContent) (fault : Fault) → NotDirty fault → MayKeepAll tells (repo_of root) list fault → MaySave tells root fault
keep_may tells root list (TooLarge path size) pure (inl long) = inr (inr (inr (inr long)))
keep_may tells root list (Blocked at) pure (inl may) = may
keep_may tells root list fault pure (inl may) = absurd may
keep_may tells root [] fault pure (inr none) = absurd none
keep_may tells root (x ∷ list) fault pure (inr (inl here)) = member_may tells root x fault pure here
keep_may tells root (x ∷ list) fault pure (inr (inr rest)) = keep_may tells root list fault pure (inr rest)

fault_may : (tells : Bool) (root : Names) (list : List NewContent) (fault : Fault) → (IsTrue tells → NotDirty fault) → MayKeepAll tells (repo_of root) list fault → MaySave tells root fault
fault_may tells root list (Dirty path) pure may = pure
fault_may tells root list fault pure may = keep_may tells root list fault tt may

ended_pure : {V : Type 0} (e : Ending V) (fault : Fault) (reaches : Type 0) → EndsBy NotDirty e → EndsRefused e fault reaches → NotDirty fault
ended_pure (Gives v) fault reaches pure ends = absurd ends
ended_pure (Refuses own) fault reaches pure ends = subst NotDirty ends.0 pure
ended_pure (Breaks own) fault reaches pure ends = subst NotDirty ends pure

module _ (tells : Bool) (root : Names) (uuid : List ℕ) (list : List NewContent) (moment : ℕ) where
  abbrev pub Keeping : List Line → List Line → Drive → Drive → Result (Unit {0}) Trouble → Type 0
  Keeping l0 l1 d0 d1 r = ActsAs (λ fault. MaySave tells root fault) tells (λ g keeps. IsKeepAll (repo_of root) uuid list moment g keeps) l0 l1 d0 d1 r

  module _ {old new : Drive} (sources : IsTrue tells → HaveSources (present old) list) where
    -- no source lacks its content
    is_pure : (fault : Fault) → KeepAllEnds tells (repo_of root) uuid list moment old new (Err (Refused fault)) → IsTrue tells → NotDirty fault
    is_pure fault acts t = elim (acts.told t) [
      | inl halted ↦ absurd halted.why
      | inr (act, is, goes) ↦ ended_pure act.ending fault _ (never_dirty (repo_of root) uuid moment (present old) list act (sources t) is) goes.ends.ending
    ]

    cause_of : (r : Result (Unit {0}) Trouble) → KeepAllEnds tells (repo_of root) uuid list moment old new r → HasCause (λ fault. MaySave tells root fault) r
    cause_of (Ok v) acts = tt
    cause_of (Err (Refused fault)) acts = fault_may tells root list fault (is_pure fault acts) acts.cause
    cause_of (Err Device) acts = tt
    cause_of (Err NoMemory) acts = tt

    pub keeps_them : {repo : Names} {given : List NewContent} {l : List Line} {r : Result (Unit {0}) Trouble} → repo ≡ repo_of root → given ≡ list → AreOutside (repo_of root) list
        → (IsTrue (is_repo repo) → AreOutside repo given → KeepAllEnds tells repo uuid given moment old new r) → Keeping l l old new r
    keeps_them {repo} {given} {l} {r} at is outside ends =
        let there : AreOutside repo given = subst (λ (p : Names). AreOutside p given) (sym at) (subst (AreOutside (repo_of root)) (sym is) outside) in
        let acts = subst (λ (p : Names). KeepAllEnds tells p uuid list moment old new r) at
        (subst (λ (z : List NewContent). KeepAllEnds tells repo uuid z moment old new r) is (ends (ap is_repo at ∙ repo_below root) there)) in
        record {
          later = acts.later;
          cause = cause_of r acts;
          told = λ t. elim (acts.told t) [
            | inl halted ↦ inl (record { why = halted.why; said = refl; kept = halted.kept })
            | inr (act, is, goes) ↦ inr (act, is, (quiet (one_act acts act goes)).told t)
          ];
        }

-- CONTENTS AND A PLAN
module _ (tells : Bool) (root : Names) (uuid : List ℕ) (list : List NewContent) (moment : ℕ) (index : Step (Unit {0})) (plan : SavePlan) where
  abbrev pub WritesAll : List Line → List Line → Drive → Drive → Result (Option Id) Trouble → Type 0
  WritesAll l0 l1 d0 d1 r = ActsAs (λ fault. MaySave tells root fault) tells (λ g act. IsWritten root uuid list moment index plan g act) l0 l1 d0 d1 r

  joined_act : (g : Ground) (keeps : Act (Unit {0})) → IsKeepAll (repo_of root) uuid list moment g keeps → IsWritten root uuid list moment index plan g (bind (λ _. keeps) (λ _. writes root index plan) g)
  joined_act g keeps is = record { keeps = keeps; keep = is; is = refl }

  pub not_kept : {l : List Line} {old new : Drive} {e : Trouble} → Keeping tells root uuid list moment l l old new (Err e) → WritesAll l l old new (Err e)
  not_kept {l} {old} {new} {e} keeping = as_fails (λ _. writes root index plan) (λ t keeps is. joined_act (present old) keeps is) keeping

  pub kept_and_written : {l m : List Line} {old mid new : Drive} {r : Result (Option Id) Trouble} → Keeping tells root uuid list moment l l old mid (Ok tt) → Writing tells root (writes root index plan) l m mid new r → WritesAll l m old new r
  kept_and_written {l} {m} {old} {mid} {new} {r} keeping writing = as_seq (λ _. writes root index plan) (λ t keeps is. joined_act (present old) keeps is) keeping writing

none_added : (old : List Entry) (files : List WorkingFile) → is_other old files ≡ false → added old files ≡ []
none_added old files same = by (added old files) (or_neither (not (is_nothing (added old files))) (not (is_nothing (deleted old files))) same).0
  where
    by : (list : List WorkingFile) → not (is_nothing list) ≡ false → list ≡ []
    by [] is = refl
    by (x ∷ list) is = absurd (cc is)

-- THE SAVE
module _ (tells : Bool) (root : Names) (wish : SaveWish) where
  abbrev pub Saves : List Line → List Line → Drive → Drive → Result (Option Id) Trouble → Type 0
  Saves l0 l1 d0 d1 r = ActsAs (λ fault. MaySave tells root fault) tells (λ g act. IsSave root wish g act) l0 l1 d0 d1 r

  -- HEAD has no place
  pub unplaced : {l : List Line} {d : Drive} (e : Trouble) → IsRepo root (Err e) → Saves l l d d (Err e)
  unplaced {l} {d} (Refused fault) is =
      let repo = repo_of root in
      let g = present d in
      as_refused (view_may tells root fault (long_seen tells root fault is)) (omega arith)
      (λ t. (refl, unread fault (inl (ap (λ (o : Option Fault). or_next (or_next o (damaged_unless (repo_head repo) (head_at repo g))) (lead_fault repo g (head_at repo g))) is))))
  unplaced Device is = absurd is
  unplaced NoMemory is = as_starved (omega arith) (λ t. refl)

  -- what is looked at isn't read
  pub unviewed : {l : List Line} {old new : Drive} (e : Trouble)
      → Reads (λ fault. MayView tells root fault) tells (λ g view. IsView root wish.to_git g view) (λ g fault. IsUnread root wish.to_git g fault) old new (Err e)
      → Saves l l old new (Err e)
  unviewed e reads = as_unread e (λ fault may. view_may tells root fault may) (λ t fault is. unread fault is) reads

  module _ {view : View} {old mid : Drive}
      (viewed : Reads (λ fault. MayView tells root fault) tells (λ g view. IsView root wish.to_git g view) (λ g fault. IsUnread root wish.to_git g fault) old mid (Ok view)) where
    at_start : IsTrue tells → IsView root wish.to_git (present old) view
    at_start t = (viewed.told t).answer

    -- where the saving begins, what was looked at is that of the ground
    pub looked_at : IsTrue tells → IsView root wish.to_git (present mid) view
    looked_at t = subst (λ (h : History). IsView root wish.to_git h.latest.now view) (sym (viewed.told t).same) (at_start t)

    -- memory is wanting
    pub starved_then : {l : List Line} → Saves l l old mid (Err NoMemory)
    starved_then = as_starved viewed.later (λ t. (viewed.told t).same)

    -- something has
    pub viewed_first : {l m : List Line} {new : Drive} {r : Result (Option Id) Trouble} → Saves l m mid new r → Saves l m old new r
    viewed_first rest = as_after viewed.later (λ t. (viewed.told t).same) rest

  -- THE CONTENTS of what was looked at
  module _ (view : View) (old : Drive) (looked : IsTrue tells → IsView root wish.to_git (present old) view) where
    abbrev list : List NewContent
    list = contents root view.by view.files.items

    -- they are there, and where something else has been read too
    sources_at : (now : Drive) → (IsTrue tells → now.history ≡ old.history) → IsTrue tells → HaveSources (present now) list
    sources_at now same t = subst (λ (h : History). HaveSources h.latest.now list) (sym (same t)) (have_sources root wish.to_git (present old) view.parent.0 view.by view.files.items (looked t))

    -- none is left out for its place
    contents_may : (fault : Fault) → ContentsFail root view.files.items (Refused fault) → MaySave tells root fault
    contents_may (Dirty path) not = λ t. not (are_below root (present old) view.by view.files.items (are_of root (present old) view.by wish.to_git view.parent.0 view.files.items (looked t)))
    contents_may fault not = absurd not

    pub contents_fail : {l : List Line} {now : Drive} (e : Trouble) → now.faults ≡ old.faults → (IsTrue tells → now.history ≡ old.history) → ContentsFail root view.files.items e → Saves l l old now (Err e)
    contents_fail (Refused (Dirty path)) stood same not =
        as_refused (contents_may (Dirty path) not) stood (λ t. absurd (contents_may (Dirty path) not t))
    contents_fail (Refused fault) stood same not = absurd not
    contents_fail Device stood same not = absurd not
    contents_fail NoMemory stood same not = as_starved stood same

    -- NOTHING
    module _ (changed : is_changed view.by.old view.files.items ≡ false) where
      pub unindexed : {l : List Line} {new : Drive} (e : Trouble) → Indexed tells root view.by.old old new (Err e) → Saves l l old new (Err e)
      unindexed e reads = as_unread e (λ fault may. absurd may) (λ t fault why. absurd why) reads

      module _ {indexed : Bool} {mid : Drive} (reads : Indexed tells root view.by.old old mid (Ok indexed)) where
        pub starved_clean : {l : List Line} → Saves l l old mid (Err NoMemory)
        starved_clean = as_starved reads.later (λ t. (reads.told t).same)

        pub is_clean : {l m : List Line} {new : Drive} {r : Result (Option Id) Trouble}
            → Writing tells root (saves_lines (keeps_index indexed root view.by.old) (dataset_line (codes "notneeded") ∷ [])) l m mid new r → Saves l m old new r
        is_clean writing =
            as_allowed (saves_lines (keeps_index indexed root view.by.old) (dataset_line (codes "notneeded") ∷ []))
            (λ t. clean view.parent.0 view.by view.files.items indexed (looked t) changed (reads.told t).answer) (after_reading reads.later (λ t. (reads.told t).same) writing)

    -- A COMMIT
    module _ (other : is_other view.by.old view.files.items ≡ true) where
      differs : is_changed view.by.old view.files.items ≡ true
      differs = ap (λ b. b || not (is_nothing (lacking view.files.items))) other

      -- none is planned
      pub not_planned : {l : List Line} {new : Drive} (e : Trouble)
          → Reads (λ fault. MayPlan tells root fault) tells (λ g planned. IsPlannedOf root wish view g planned) (λ g fault. IsPlanRefusal root wish view g fault) old new (Err e)
          → Saves l l old new (Err e)
      not_planned e reads =
          as_unread e (λ fault may. plan_may tells root fault may)
          (λ t fault why. unplanned view.parent.0 view.by view.files.items fault (looked t) differs (why (looked t))) reads

      module _ {planned : Planned} {mid : Drive}
          (plans : Reads (λ fault. MayPlan tells root fault) tells (λ g planned. IsPlannedOf root wish view g planned) (λ g fault. IsPlanRefusal root wish view g fault) old mid (Ok planned)) where
        -- memory is wanting
        pub starved_last : {l : List Line} → Saves l l old mid (Err NoMemory)
        starved_last = as_starved plans.later (λ t. (plans.told t).same)

        pub contents_fail_then : {l : List Line} (e : Trouble) → ContentsFail root view.files.items e → Saves l l old mid (Err e)
        contents_fail_then e not = contents_fail e plans.later (λ t. (plans.told t).same) not

        pub sources_then : IsTrue tells → HaveSources (present mid) list
        sources_then = sources_at mid (λ t. (plans.told t).same)

        -- two of the objects collide
        pub collides : {fault : Fault} {l : List Line} → Some fault ≡ clash_fault [] planned.objects.items → Saves l l old mid (Err (Refused fault))
        collides {fault} why =
            as_refused (clash_may tells root fault [] planned.objects.items (sym why)) plans.later (λ t.
            let so = (plans.told t).answer (looked t) in
            ((plans.told t).same, clashing view.parent.0 view.by view.files.items (plan_of planned) fault (looked t) other so.0 so.1 (sym why)))

        -- it is written
        module _ (none : None ≡ clash_fault [] planned.objects.items) where
          abbrev index : Step (Unit {0})
          index = keeps_index planned.indexed root planned.snapshot

          act_of : (l m : List Line) (last : Drive) (r : Result (Option Id) Trouble) (first : WritesAll tells root planned.uuid list wish.moment index (plan_of planned) l m old last r)
              → IsTrue tells → (act : Act (Option Id)) → IsWritten root planned.uuid list wish.moment index (plan_of planned) (present old) act → Goes act l m old last r
              → (save : Act (Option Id)) × IsSave root wish (present old) save × Goes save l m old last r
          unfolding saves
          act_of l m last r first t act is goes =
              let so = (plans.told t).answer (looked t) in
              let going : Goes (bind (λ _. is.keeps) (λ _. writes root index (plan_of planned)) (present old)) l m old last r = subst (λ (a : Act (Option Id)). Goes a l m old last r) is.is goes in
              let written : Acts (λ fault. MaySave tells root fault) tells (bind (λ _. is.keeps) (λ _. writes root index (plan_of planned))) l m old last r =
              record { later = first.later; cause = first.cause; told = λ _. going } in (
                saves root index (plan_of planned) is.keeps (present old),
                subst (λ (entries : List Entry). IsSave root wish (present old) (saves root (keeps_index planned.indexed root entries) (plan_of planned) is.keeps (present old))) (sym so.2.snapshot)
                    (saved view.parent.0 view.by view.files.items (plan_of planned) is.keeps planned.indexed (looked t) other so.0 so.1
                    (record { uuid = planned.uuid; own = so.2.uuid; keep = is.keep }) so.2.index),
                (seq _ (passes (λ g. clash_fault [] planned.objects.items) (λ _. sym none)) written).told t,
              )

          pub is_written : {l m : List Line} {last : Drive} {r : Result (Option Id) Trouble} → WritesAll tells root planned.uuid list wish.moment index (plan_of planned) l m mid last r → Saves l m old last r
          is_written {l} {m} {last} {r} writing =
              let first = as_after plans.later (λ t. (plans.told t).same) writing in
              as_mapped (act_of l m last r first) first

    -- ONLY CONTENTS
    module _ (changed : is_changed view.by.old view.files.items ≡ true) (same : is_other view.by.old view.files.items ≡ false) where
      -- the configuration isn't read
      pub not_configured : {l : List Line} {new : Drive} (e : Trouble) → ConfigReads tells root old new (Err e) → Saves l l old new (Err e)
      not_configured e reads =
          as_unread e (λ fault may. plan_may tells root fault (config_may tells root fault may))
          (λ t fault why. unplanned view.parent.0 view.by view.files.items fault (looked t) changed (unconfigured root wish view (present old) (looked t) fault why)) reads

      module _ {config : RepoConfig} {mid : Drive} (reads : ConfigReads tells root old mid (Ok config)) where
        abbrev lines : List Line
        lines = save_lines view.by.old view.files.items (codes "notneeded")

        pub contents_fail_read : {l : List Line} (e : Trouble) → ContentsFail root view.files.items e → Saves l l old mid (Err e)
        contents_fail_read e not = contents_fail e reads.later (λ t. (reads.told t).same) not

        pub unindexed_read : {l : List Line} {new : Drive} (e : Trouble) → Indexed tells root view.by.old mid new (Err e) → Saves l l old new (Err e)
        unindexed_read e index = as_after reads.later (λ t. (reads.told t).same) (as_unread e (λ fault may. absurd may) (λ t fault why. absurd why) index)

        none_refuses : (g : Ground) → settings_fault root g ≡ None → plan_fault root g view.by.old view.files.items ≡ None
        none_refuses g whole = (λ i. or_next (whole i) (sum_fault 0 (blobs_in root g (none_added view.by.old view.files.items same i))))

        module _ {indexed : Bool} {last : Drive} (index : Indexed tells root view.by.old mid last (Ok indexed)) where
          stood : last.faults ≡ old.faults
          stood = omega (arith, reads.later, index.later)

          unmoved : IsTrue tells → last.history ≡ old.history
          unmoved t = (index.told t).same ∙ (reads.told t).same

          abbrev rest : Step (Option Id)
          rest = saves_lines (keeps_index indexed root view.by.old) lines

          -- memory is wanting
          pub starved_read : {l : List Line} → Saves l l old last (Err NoMemory)
          starved_read = as_starved stood unmoved

          pub sources_read : IsTrue tells → HaveSources (present last) list
          sources_read = sources_at last unmoved

          allowed : (t : IsTrue tells) (keeps : Act (Unit {0})) → IsKeepAll (repo_of root) config.uuid list wish.moment (present old) keeps → IsSave root wish (present old) (bind (λ _. keeps) (λ _. rest) (present old))
          unfolding saves_contents
          allowed t keeps is =
              let configured = (reads.told t).answer in
              kept view.parent.0 view.by view.files.items keeps indexed (looked t) changed same (none_refuses (present old) configured.whole)
              (record {
                uuid = config.uuid;
                own = record { text = configured.text; config = plain_config config; stands = configured.stands; read = configured.configured; own = refl };
                keep = is;
              })
              (subst (λ (h : History). HasIndex root view.by.old h.latest.now indexed) (reads.told t).same (index.told t).answer)

          -- they aren't kept
          pub only_not_kept : {l : List Line} {new : Drive} {e : Trouble} → Keeping tells root config.uuid list wish.moment l l last new (Err e) → Saves l l old new (Err e)
          only_not_kept keeping = as_fails (λ _. rest) allowed (as_after stood unmoved keeping)

          -- they are kept
          pub only_kept : {l m : List Line} {now new : Drive} {r : Result (Option Id) Trouble} → Keeping tells root config.uuid list wish.moment l l last now (Ok tt) → Writing tells root rest l m now new r → Saves l m old new r
          only_kept keeping writing = as_seq (λ _. rest) allowed (as_after stood unmoved keeping) writing
