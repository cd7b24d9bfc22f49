-- A save keeps a sound disk sound.
use Rattle.std.proofs.Common.{◌≡◌, ℕ, Bool, true, false, cond, List, [], ◌∷◌, ◌++◌, length, nat_lt, Option, Some, None, refl, sym, ap, ◌∙◌, subst}
use Rattle.std.specs.Prelude.{codes, option_map, is_some}
use Rattle.places.specs.All.{Names, text_of, Ground, file_at}
use Rattle.faults.specs.declared.lines.Line.{Line}
use Rattle.faults.specs.declared.faults.Fault.{Fault}
use Rattle.file_store.specs.All.{or_next, present}
use Rattle.git_objects.specs.All.{oid}
use Rattle.git_objects.specs.declared.ids.Id.{Id}
use Rattle.git_objects.specs.declared.objects.ObjKind.TheVariants.{Commit}
use Rattle.repository.specs.All.{Head, branch_place, head_in, head_of, index_place, large, object_limit}
use Rattle.repository.specs.All.{repo_head, repo_of}
use Rattle.acts.specs.All.{Act, Gives, Step, bind, each, ending_of, gives, go_on, last_of, rounds_in, says, still, unless}
use Rattle.acts.specs.All.{fold}
use Rattle.acts.proofs.Folds.{bind_assoc}
use Rattle.index_store.specs.All.{keeps_index, sets_index, snapshot_text}
use Rattle.object_store.specs.All.{early_fault, first_fault, long_fault, missing, puts_missing}
use Rattle.object_store.specs.All.{puts_objects}
use Rattle.object_store.specs.declared.objects.NewObject.{NewObject}
use Rattle.ref_store.specs.All.{damaged_unless, given, head_at, head_fault, head_given, long_place}
use Rattle.ref_store.specs.All.{long_repo, puts_one, sets_tip, lead_fault}
use Rattle.snapshot.specs.All.{IsBuilt}
use Rattle.snapshot.specs.declared.entries.Entry.{Entry}
use Rattle.snapshot.specs.declared.entries.Leaf.{Leaf}
use Rattle.snapshot.specs.declared.entries.Leaf.TheVariants.{Git, Link, Pin}
use Rattle.dataset.specs.All.{BeginsSound, HoldsAll, IsRoot, NoneCollide, Sound, ActKeeps}
use Rattle.dataset.specs.All.{saves as puts_and_sets, AreFree, IsFlatSave, IsSave as IsSaveOn}
use Rattle.dataset.specs.All.{saved_objects, IsDataset, IsSoundAt, Has, IsLeafHeld, IsWhole}
use Rattle.dataset.proofs.Commits.{tree_full}
use Rattle.dataset.proofs.Moments.{moments_intact, end_sound, end_settled}
use Rattle.dataset.proofs.Refs.{is_done, one_keeps}
use Rattle.dataset.proofs.Rows.{rounds_hold, rounds_last, unwatched_keeps}
use Rattle.dataset.proofs.Saving.{flat_save, neither, no_fault_free}
use Rattle.dataset.proofs.Splits.{unwatched_at}
use Rattle.dataset.proofs.Steps.{bind_keeps, none_watched, still_steps}
use Rattle.tree_status.specs.All.{IsRead, KeepBy, leaf_at, new_entries}
use Rattle.tree_status.specs.declared.found.WorkingFile.{WorkingFile}
use Rattle.recursive_save.specs.Contents.{IsKeepingOf}
use Rattle.recursive_save.specs.Saving.{IsSave, IsSavePlan, SavePlan, clash_fault, clashing, clean}
use Rattle.recursive_save.specs.Saving.{kept, new_blobs, save_commit, save_lines, saved, saves}
use Rattle.recursive_save.specs.Saving.{saves_contents, saves_lines, says_all, unplanned, unread}
use Rattle.recursive_save.specs.Saving.{writes}
use Rattle.recursive_save.specs.Soundness.{SaveKeepsSound}
use Rattle.recursive_save.specs.declared.wishes.SaveWish.{SaveWish}
use Rattle.recursive_save.proofs.Apart.{none_collide}
use Rattle.recursive_save.proofs.KeptSound.{keeping_heads, keeping_keeps}
use Rattle.recursive_save.proofs.OldLeaves.{all_there, blobs_are, bodies, each_listed, entries_same, leaves_same, old_leaf}
use Rattle.recursive_save.proofs.There.{are_of}

-- LINES
says_keep : (lines : List Line) (g : Ground) → ActKeeps (says_all lines g) g
unfolding fold
says_keep [] g = (still_steps {V = Unit {0}}).gives tt g
says_keep (line ∷ lines) g = bind_keeps (says line) (λ t. each says lines) g ((still_steps {V = Unit {0}}).says line g) (λ v is. says_keep lines _)

-- THE INDEX, at which soundness doesn't look
abbrev pub IndexKeeps : Step (Unit {0}) → Type 0
IndexKeeps index = (g : Ground) → ActKeeps (index g) g

set_index_keeps : (root : Names) → IsRoot root → (list : List Entry) → IndexKeeps (sets_index root list)
unfolding sets_index
set_index_keeps root outside list g =
    bind_keeps (unless (λ h. long_repo (repo_of root))) (λ t. puts_one (repo_of root) (index_place root) (snapshot_text list)) g ((still_steps {V = Unit {0}}).unless _ g)
    (λ v is. one_keeps root (index_place root) (snapshot_text list) _ (unwatched_keeps ((index_place root, Some (snapshot_text list)) ∷ []) _ (unwatched_at root (codes "index" ∷ []) outside refl, tt)))

index_keeps : (root : Names) → IsRoot root → (indexed : Bool) (list : List Entry) → IndexKeeps (keeps_index indexed root list)
index_keeps root outside true list g = (still_steps {V = Unit {0}}).gives tt g
index_keeps root outside false list g = set_index_keeps root outside list g

lines_keep : (index : Step (Unit {0})) → IndexKeeps index → (lines : List Line) (g : Ground) → ActKeeps (saves_lines index lines g) g
unfolding saves_lines
lines_keep index keep lines g =
    bind_keeps index (λ t. bind (says_all lines) (λ u. gives None)) g (keep g)
    (λ v is. bind_keeps (says_all lines) (λ u. gives None) _ (says_keep lines _) (λ u is. (still_steps {V = Option Id}).gives None _))

-- what is refused early refuses the put
no_first : (repo : Names) (objects : List NewObject) (g : Ground) → early_fault repo objects g ≡ None → first_fault repo objects g ≡ None
no_first repo [] g e = refl
no_first repo (x ∷ objects) g e = by (nat_lt object_limit (length (text_of repo))) e
  where
    by : (b : Bool) → cond b (large repo) (or_next (first_fault repo (x ∷ objects) g) (long_fault repo (missing repo (x ∷ objects) g))) ≡ None → first_fault repo (x ∷ objects) g ≡ None
    by true h = absurd (cc h)
    by false h = (neither (first_fault repo (x ∷ objects) g) (long_fault repo (missing repo (x ∷ objects) g)) h).0

-- HEAD
head_stands : (p : Names) (file : Option (List ℕ)) → damaged_unless p (given head_given file) ≡ None → is_some file ≡ true
head_stands p None e = absurd (cc e)
head_stands p (Some text) e = refl

led : (o : Option Head) (parent : List ℕ) → option_map (λ (h : Head). h.id) o ≡ Some parent → (h : Head) × (o ≡ Some h) × (h.id ≡ parent)
led None parent e = absurd (cc e)
led (Some h) parent e =
    let same : h.id ≡ parent = cc e in
    (h, refl, same)

module _ (root : Names) (wish : SaveWish) (g : Ground) (outside : IsRoot root) (sound : Sound g)
    (parent : List ℕ) (by : KeepBy) (files : List WorkingFile) (read : IsRead root wish.to_git g parent by files) (keeps : Act (Unit {0})) (keeping : IsKeepingOf root wish.moment g by files keeps) where
  abbrev repo : Names
  repo = repo_of root

  keep : ActKeeps keeps g
  keep = keeping_keeps root outside wish.moment wish.to_git parent by files g keeps read keeping

  -- what HEAD's commit leads to is held
  is_dataset : IsDataset root g
  is_dataset =
      let none = neither (head_fault repo g) (lead_fault repo g (head_at repo g)) read.tip.0 in
      head_stands (repo_head repo) (file_at g (repo_head repo)) (neither (long_place (repo_head repo)) (damaged_unless (repo_head repo) (head_at repo g)) none.0).1

  at : IsSoundAt root g
  at = sound root is_dataset

  there : (h : Head) × (head_of g repo ≡ Some h) × (h.id ≡ parent)
  there = led (head_of g repo) parent read.tip.1

  abbrev head : Head
  head = there.0

  whole : IsWhole repo parent g
  whole =
      let heads : Some at.heads.head ≡ Some head = sym at.heads.leads ∙ there.1 in
      let same : at.heads.head ≡ head = cc heads in
      subst (λ (i : List ℕ). IsWhole repo i g) (ap (λ (h : Head). h.id) same ∙ there.2) at.heads.whole

  old_held : (path : List ℕ) (l : Leaf) → leaf_at path by.old ≡ Some l → IsLeafHeld repo g l
  old_held path l is =
      let flat = read.flat in
      let full = tree_full repo g parent flat.fields flat.held whole in
      let top = entries_same repo g flat.fields.tree.0 _ _ full.stands.tree flat.tree.stands.tree in
      let each = leaves_same repo g full.dir flat.tree.dir top full.stands.subs flat.tree.stands.subs full.leaves in
      let found = old_leaf path by.old l is in
      subst (IsLeafHeld repo g) found.2 (each_listed (IsLeafHeld repo g) [] flat.tree.dir each found.0 (subst (λ (z : List Entry). Has z found.0) flat.tree.same found.1))

  contents_keep : (index : Step (Unit {0})) → IndexKeeps index → (lines : List Line) → ActKeeps (saves_contents index lines keeps g) g
  unfolding saves_contents
  contents_keep index indexes lines = bind_keeps (λ h. keeps) (λ t. saves_lines index lines) g keep (λ v is. lines_keep index indexes lines (last_of keeps g))

  module _ (index : Step (Unit {0})) (indexes : IndexKeeps index) (plan : SavePlan) (planned : IsSavePlan root wish g parent by.old files plan) (clear : clash_fault [] plan.objects ≡ None) (v : Unit {0}) (done : keeps.ending ≡ Gives v) where
    -- THE GROUND that the keeping leaves has the same head, and holds what was held
    abbrev h : Ground
    h = last_of keeps g

    h_sound : Sound h
    h_sound = rounds_last (rounds_in keeps) g keep.rounds sound

    still_held : HoldsAll g h
    still_held = rounds_hold (rounds_in keeps) g keep.rounds sound

    h_leads : head_of h repo ≡ Some head
    h_leads = keeping_heads root outside wish.moment wish.to_git parent by files g keeps read keeping v done root outside ∙ there.1

    h_dataset : IsDataset root h
    h_dataset = has_head (file_at h (repo_head repo)) h_leads
      where
        has_head : (file : Option (List ℕ)) → head_in (λ name. file_at h (branch_place repo name)) file ≡ Some head → is_some file ≡ true
        has_head None e = absurd (cc e)
        has_head (Some text) e = refl

    leaf_stays : (l : Leaf) → IsLeafHeld repo g l → IsLeafHeld repo h l
    leaf_stays (Git id exec) (body, held) = (body, still_held root outside id.0 _ held)
    leaf_stays (Link id) (body, held) = (body, still_held root outside id.0 _ held)
    leaf_stays (Pin id) held = tt

    abbrev commit : List ℕ
    commit = save_commit planned.config wish planned.tree parent

    abbrev blobs : List (List ℕ)
    blobs = bodies (new_blobs root g by.old files)

    objects_are : plan.objects ≡ saved_objects blobs planned.trees commit
    objects_are = planned.objects ∙ ap (λ (bs : List NewObject). bs ++ planned.trees ++ record { kind = Commit; body = commit } ∷ []) (blobs_are (new_blobs root g by.old files))

    flat_so : early_fault repo plan.objects h ≡ None → IsFlatSave root head blobs (new_entries by.old files) planned.trees planned.fields commit h
    flat_so none = record {
      dataset = h_dataset;
      leads = h_leads;
      built = subst (λ (t : List ℕ). IsBuilt (new_entries by.old files) t planned.trees) (sym planned.tree_is) planned.built;
      leaves = all_there root g h by (λ path l is. leaf_stays l (old_held path l is)) files (are_of root g by wish.to_git parent files read);
      text = planned.text;
      parents = planned.parent_is ∙ ap (λ (i : List ℕ). record { 0 = i } ∷ []) (sym there.2);
      free = subst (λ (os : List NewObject). AreFree repo os h) objects_are (no_fault_free repo plan.objects h (no_first repo plan.objects h none));
      own = subst (λ (os : List NewObject). NoneCollide repo os) objects_are (none_collide repo plan.objects clear);
    }

    save_on : early_fault repo plan.objects h ≡ None → IsSaveOn root head plan.objects plan.commit h
    save_on none =
        subst (λ (i : List ℕ). IsSaveOn root head plan.objects i h) (sym planned.commit)
        (subst (λ (os : List NewObject). IsSaveOn root head os (oid Commit commit) h) (sym objects_are)
        (flat_save root head blobs (new_entries by.old files) planned.trees planned.fields commit h h_sound (flat_so none)))

    -- THE WRITING
    abbrev said : Step (Option Id)
    said = bind (says_all plan.lines) (λ t. gives (Some (record { 0 = plan.commit })))

    abbrev rest : Step (Option Id)
    rest = bind index (λ t. said)

    said_keeps : (k : Ground) → ActKeeps (said k) k
    said_keeps k = bind_keeps (says_all plan.lines) (λ t. gives (Some (record { 0 = plan.commit }))) k (says_keep plan.lines k) (λ v is. (still_steps {V = Option Id}).gives _ _)

    rest_keeps : (k : Ground) → ActKeeps (rest k) k
    rest_keeps k = bind_keeps index (λ t. said) k (indexes k) (λ v is. said_keeps _)

    abbrev written_by : Option Fault → Act (Option Id)
    written_by o = go_on (go_on (still (ending_of o)) (ending_of o) h (λ t. puts_missing repo plan.objects)) (go_on (still (ending_of o)) (ending_of o) h (λ t. puts_missing repo plan.objects)).ending h
        (λ t. bind (sets_tip repo plan.commit) (λ u. rest))

    writes_kept : early_fault repo plan.objects h ≡ None → ActKeeps (writes root index plan h) h
    writes_kept none =
        subst (λ (a : Act (Option Id)). ActKeeps a h) (bind_assoc (puts_objects repo plan.objects) (λ t. sets_tip repo plan.commit) (λ t. rest) h)
        (bind_keeps (puts_and_sets repo plan.objects plan.commit) (λ t. rest) h (is_done root head plan.objects plan.commit h (save_on none)).keeps (λ v is. rest_keeps _))

    writes_keep : ActKeeps (writes root index plan h) h
    unfolding puts_objects bind unless
    writes_keep = choose (early_fault repo plan.objects h) refl
      where
        choose : (o : Option Fault) → early_fault repo plan.objects h ≡ o → ActKeeps (written_by o) h
        choose (Some fault) e = record { rounds = tt; loose = none_watched }
        choose None e = subst (λ (o : Option Fault). ActKeeps (written_by o) h) e (writes_kept e)

  module _ (index : Step (Unit {0})) (indexes : IndexKeeps index) (plan : SavePlan) (planned : IsSavePlan root wish g parent by.old files plan) where
    abbrev saved_by : Option Fault → Act (Option Id)
    saved_by o = go_on (still (ending_of o)) (ending_of o) g (λ t. bind (λ k. keeps) (λ u. writes root index plan))

    saves_keep : ActKeeps (saves root index plan keeps g) g
    unfolding saves bind unless
    saves_keep = choose (clash_fault [] plan.objects) refl
      where
        choose : (o : Option Fault) → clash_fault [] plan.objects ≡ o → ActKeeps (saved_by o) g
        choose (Some fault) e = record { rounds = tt; loose = none_watched }
        choose None e =
            let kept = bind_keeps (λ k. keeps) (λ u. writes root index plan) g keep (λ v is. writes_keep index indexes plan planned e v is) in
            record { rounds = kept.rounds; loose = kept.loose }

act_keeps : (root : Names) (wish : SaveWish) (g : Ground) → IsRoot root → Sound g → (act : Act (Option Id)) → IsSave root wish g act → ActKeeps act g
act_keeps root wish g outside sound _ (unread fault why) = record { rounds = tt; loose = none_watched }
act_keeps root wish g outside sound _ (clean parent by files indexed read same own_index) = lines_keep _ (index_keeps root outside indexed by.old) _ g
act_keeps root wish g outside sound _ (unplanned parent by files fault read changed why) = record { rounds = tt; loose = none_watched }
act_keeps root wish g outside sound _ (clashing parent by files plan fault read other none planned clash) = record { rounds = tt; loose = none_watched }
act_keeps root wish g outside sound _ (kept parent by files keeps indexed read changed same none keeping own_index) =
    contents_keep root wish g outside sound parent by files read keeps keeping _ (index_keeps root outside indexed by.old) (save_lines by.old files (codes "notneeded"))
act_keeps root wish g outside sound _ (saved parent by files plan keeps indexed read other none planned keeping own_index) =
    saves_keep root wish g outside sound parent by files read keeps keeping _ (index_keeps root outside indexed (new_entries by.old files)) plan planned

pub save_sound : SaveKeepsSound
save_sound root wish act old new can is =
    let begins : BeginsSound act old = record { sound = can.sound; settled = can.settled; keeps = act_keeps root wish (present old) can.outside can.sound act is } in
    record {
      moments = moments_intact act old begins new;
      sound = end_sound act old begins new;
      settled = end_settled act old begins new;
    }
