-- A save of a sound dataset is refused for nothing that the program itself has left there.
use Rattle.std.proofs.Common.{◌≡◌, inl, inr, ℕ, ◌+◌, Bool, true, false, cond, nat_lt, List, [], ◌∷◌, ◌++◌, length, Option, Some, None, Result, Ok, refl, sym, ap, ◌∙◌, subst}
use Rattle.std.specs.Prelude.{bytes_eq, codes, not, ◌&&◌}
use Rattle.std.proofs.lemmas.Slice.Eq.{bytes_eq-Decides}
use Rattle.places.specs.All.{Names, text_of, Ground, file_at}
use Rattle.faults.specs.declared.lines.Line.{Line}
use Rattle.faults.specs.declared.faults.Fault.{Fault}
use Rattle.faults.specs.declared.faults.Fault.TheVariants.{Collision, Damaged, OddKind, TooLarge}
use Rattle.faults.specs.declared.faults.Fault.TheVariants.{TimeFull, UnsupportedMode}
use Rattle.file_store.specs.All.{block_of, first_shut, only, or_next, stage_block}
use Rattle.file_store.specs.declared.replacing.Replacement.{Replacement}
use Rattle.git_objects.specs.All.{Object, is_object_text, oid, text_of_object}
use Rattle.git_objects.specs.declared.ids.Id.{Id}
use Rattle.config_text.specs.All.{PlainConfig, config_in}
use Rattle.annex_keys.specs.All.{IsKey, PlainKey}
use Rattle.annex_store.specs.All.{Each, IsFirstFault, IsFullFault, IsKeepAll, IsKeepFault, PlainNote}
use Rattle.annex_store.specs.All.{content_files, dirty_fault, dirty_or, firsts, found_in}
use Rattle.annex_store.specs.All.{keeps_all, log_files, puts_any, sets_notes, staged_act}
use Rattle.annex_store.specs.All.{stores, unkept, write_fault}
use Rattle.annex_store.specs.declared.members.NewContent.{NewContent}
use Rattle.repository.specs.All.{held_at, id_text, large}
use Rattle.repository.specs.All.{index_place, object_limit, object_of, repo_limit, repo_of, settings_place}
use Rattle.repository.specs.All.{is_tmp, tmp_place}
use Rattle.repository.proofs.Holds.{held_is, none_of_text}
use Rattle.repository.proofs.Unfinished.{object_firm}
use Rattle.acts.specs.All.{Act, Ending, Gives, Refuses, Breaks, Step, bind, ending_of, fold, gives}
use Rattle.acts.specs.All.{go_on, last_of, put_act, puts, says, unless}
use Rattle.object_store.specs.All.{early_fault, fault_in, first_fault, found_fault, long_fault}
use Rattle.object_store.specs.All.{missing, object_text, place_in, puts_missing, puts_objects}
use Rattle.index_store.specs.All.{keeps_index, sets_index, snapshot_text}
use Rattle.object_store.specs.All.{puts_some, staging}
use Rattle.object_store.specs.declared.objects.NewObject.{NewObject}
use Rattle.ref_store.specs.All.{given, head_at, head_fault, head_given, long_repo, puts_one}
use Rattle.ref_store.specs.All.{set_fault, sets_tip, tip_at}
use Rattle.snapshot.specs.declared.entries.Entry.{Entry}
use Rattle.dataset.specs.All.{IsLimitAtMost, IsSoundAt}
use Rattle.dataset.proofs.Ids.{oid_is_id}
use Rattle.dataset.proofs.Readable.{head_read, object_held, readable}
use Rattle.tree_status.specs.All.{IsRead, IsSoundNoStatus, KeepBy, WorkFile, new_entries}
use Rattle.tree_status.specs.declared.found.WorkingFile.{WorkingFile}
use Rattle.tree_status.proofs.SoundLooks.{Only, cond_only, limit_only, of_limit, of_only, or_only, unread_sound}
use Rattle.recursive_save.specs.Contents.{HaveSources, IsKeepingOf, contents}
use Rattle.recursive_save.specs.Saved.{IsSoundEnding, IsSoundRefusal, SaveIsComplete}
use Rattle.recursive_save.specs.Saving.{IsSave, SavePlan, blobs_limit, clash_fault, clash_with}
use Rattle.recursive_save.specs.Saving.{clashing, clean, kept, line_fault, new_blobs, plan_fault, save_lines}
use Rattle.recursive_save.specs.Saving.{saved, saves, saves_contents, saves_lines, says_all}
use Rattle.recursive_save.specs.Saving.{settings_fault, settings_in, settings_limit, sum_fault}
use Rattle.recursive_save.specs.Saving.{unplanned, unread, writes}
use Rattle.recursive_save.specs.declared.wishes.SaveWish.{SaveWish}
use Rattle.recursive_save.proofs.EachContent.{firsts_each, unkept_each}
use Rattle.recursive_save.proofs.Keys.{have_keys}
use Rattle.recursive_save.proofs.SaveActs.{head_same, keeping_of, object_same}
use Rattle.recursive_save.proofs.Sources.{have_sources}

abbrev Soundly : Option Fault → Type 0
Soundly = Only IsSoundRefusal

of_soundly : (o : Option Fault) (fault : Fault) → Soundly o → o ≡ Some fault → IsSoundRefusal fault
of_soundly = of_only IsSoundRefusal

or_sound : (a b : Option Fault) → Soundly a → Soundly b → Soundly (or_next a b)
or_sound = or_only IsSoundRefusal

cond_sound : (b : Bool) (x y : Option Fault) → Soundly x → Soundly y → Soundly (cond b x y)
cond_sound = cond_only IsSoundRefusal

large_sound : (path : List ℕ) (size : ℕ) → IsSoundRefusal (TooLarge path size)
large_sound path size = tt

limit_sound : (o : Option Fault) → IsLimitAtMost o → Soundly o
limit_sound = limit_only IsSoundRefusal large_sound

-- what a look is refused for, a save may be
look_sound : (fault : Fault) → IsSoundNoStatus fault → IsSoundRefusal fault
look_sound (TooLarge path size) h = tt
look_sound (UnsupportedMode path) h = tt
look_sound (OddKind path) h = tt
look_sound fault h = absurd h

-- THE PLAN
sum_sound : (before : ℕ) (files : List WorkFile) → Soundly (sum_fault before files)
sum_sound before [] = tt
sum_sound before (file ∷ files) = cond_sound (nat_lt blobs_limit (before + length file.1)) _ (sum_fault (before + length file.1) files) tt (sum_sound (before + length file.1) files)

settings_sound : (place : Names) (text : List ℕ) (config : PlainConfig) → config_in text ≡ Ok config → Soundly (settings_in place (Some text))
settings_sound place text config is = cond_sound (nat_lt settings_limit (length text)) _ (line_fault place (config_in text)) tt (subst (λ (r : Result PlainConfig ℕ). Soundly (line_fault place r)) (sym is) tt)

clash_with_sound : (before : List NewObject) (object : NewObject) → Soundly (clash_with before object)
clash_with_sound [] object = tt
clash_with_sound (one ∷ more) object =
    cond_sound (bytes_eq (oid one.kind one.body) (oid object.kind object.body) && not (bytes_eq (object_text one) (object_text object))) _ (clash_with more object) tt (clash_with_sound more object)

clash_sound : (before objects : List NewObject) → Soundly (clash_fault before objects)
clash_sound before [] = tt
clash_sound before (object ∷ objects) = or_sound (clash_with before object) (clash_fault (before ++ object ∷ []) objects) (clash_with_sound before object) (clash_sound (before ++ object ∷ []) objects)

-- STEPS
abbrev EndsSoundly : {V : Type 0} → Act V → Type 0
EndsSoundly act = IsSoundEnding act.ending

ending_sound : (o : Option Fault) → Soundly o → IsSoundEnding (ending_of o)
ending_sound None h = tt
ending_sound (Some fault) h = h

module _ {V W : Type 0} (first : Step V) (next : V → Step W) (g : Ground) where
  bind_sound : EndsSoundly (first g) → ((v : V) → EndsSoundly (next v (last_of (first g) g))) → EndsSoundly (bind first next g)
  unfolding bind
  bind_sound one more = by (first g).ending one
    where
      by : (ending : Ending V) → IsSoundEnding ending → EndsSoundly (go_on (first g) ending g next)
      by (Gives v) h = more v
      by (Refuses fault) h = h
      by (Breaks fault) h = h

unless_sound : (fault : Ground → Option Fault) (g : Ground) → Soundly (fault g) → EndsSoundly (unless fault g)
unfolding unless
unless_sound fault g h = ending_sound (fault g) h

puts_sound : (list : List Replacement) (g : Ground) → EndsSoundly (puts list g)
unfolding puts
puts_sound list g = by (first_shut list g) (block_of list g)
  where
    by : (at_once : Bool) (at : Option Names) → EndsSoundly (put_act list at_once at)
    by true (Some at) = tt
    by false (Some at) = tt
    by at_once None = tt

some_sound : (list : List Replacement) (g : Ground) → EndsSoundly (puts_some list g)
unfolding gives
some_sound [] g = tt
some_sound (r ∷ list) g = puts_sound (r ∷ list) g

lines_sound : (lines : List Line) (g : Ground) → EndsSoundly (says_all lines g)
unfolding fold bind says gives
lines_sound [] g = tt
lines_sound (line ∷ lines) g = lines_sound lines g

-- THE INDEX
abbrev IndexEnds : Step (Unit {0}) → Type 0
IndexEnds index = (g : Ground) → EndsSoundly (index g)

set_index_sound : (root : Names) (list : List Entry) → IndexEnds (sets_index root list)
unfolding sets_index
set_index_sound root list g =
    bind_sound (unless (λ h. long_repo (repo_of root))) (λ t. puts_one (repo_of root) (index_place root) (snapshot_text list)) g
    (unless_sound (λ h. long_repo (repo_of root)) g (cond_sound (nat_lt repo_limit (length (text_of (repo_of root)))) (large (repo_of root)) None tt tt))
    (λ v. puts_sound (only (tmp_place (repo_of root) 0) (index_place root) (snapshot_text list)) _)

index_sound : (root : Names) (indexed : Bool) (list : List Entry) → IndexEnds (keeps_index indexed root list)
unfolding gives
index_sound root true list g = tt
index_sound root false list g = set_index_sound root list g

no_commit_sound : (index : Step (Unit {0})) → IndexEnds index → (lines : List Line) (g : Ground) → EndsSoundly (saves_lines index lines g)
unfolding saves_lines gives
no_commit_sound index ends lines g =
    bind_sound index (λ t. bind (says_all lines) (λ u. gives None)) g (ends g)
    (λ t. bind_sound (says_all lines) (λ u. gives None) _ (lines_sound lines _) (λ u. tt))

-- CONTENTS that their sources have, and keys in form
any_sound : (list : List Replacement) (g : Ground) → EndsSoundly (puts_any list g)
unfolding gives
any_sound [] g = tt
any_sound (r ∷ list) g = puts_sound (r ∷ list) g

none_dirty : (list : List NewContent) (g : Ground) → HaveSources g list → dirty_fault list g ≡ None
none_dirty [] g have = refl
none_dirty (x ∷ list) g have = ap (λ (found : Option (List ℕ)). dirty_or x found (dirty_fault list g)) have.0.1 ∙ none_dirty list g have.1

staged_sound : (block : Option Names) (dirty : Option Fault) (files : List Replacement) (g : Ground) → dirty ≡ None → EndsSoundly (staged_act block dirty files g)
staged_sound (Some at) dirty files g clear = tt
staged_sound None (Some fault) files g clear = absurd (cc clear)
staged_sound None None files g clear = any_sound files g

module _ (repo : Names) (g : Ground) where
  stores_sound : (list : List NewContent) → HaveSources g list → EndsSoundly (stores repo list g)
  unfolding stores
  stores_sound list have = staged_sound (stage_block (content_files repo 0 list g) g) (dirty_fault list g) (content_files repo 0 list g) g (none_dirty list g have)

  long_sound : (list : List NewContent) (notes : List PlainNote) → Soundly (write_fault repo list notes)
  long_sound [] [] = tt
  long_sound [] (n ∷ notes) = cond_sound (nat_lt repo_limit (length (text_of repo))) (large repo) None tt tt
  long_sound (x ∷ list) notes = cond_sound (nat_lt repo_limit (length (text_of repo))) (large repo) None tt tt

  all_sound : (list : List NewContent) (notes : List PlainNote) → HaveSources g list → EndsSoundly (keeps_all repo list notes g)
  unfolding keeps_all unless sets_notes
  all_sound list notes have =
      bind_sound (unless (λ h. write_fault repo list notes)) (λ t. bind (stores repo list) (λ u. sets_notes repo notes)) g (ending_sound (write_fault repo list notes) (long_sound list notes))
      (λ t. bind_sound (stores repo list) (λ u. sets_notes repo notes) g (stores_sound list have) (λ u. any_sound (log_files repo 0 notes) _))

-- SOUND GROUNDS
module _ (root : Names) (g : Ground) (at : IsSoundAt root g) where
  abbrev repo : Names
  repo = repo_of root

  plan_sound : (old : List Entry) (files : List WorkingFile) → Soundly (plan_fault root g old files)
  plan_sound old files =
      or_sound (settings_fault root g) (sum_fault 0 (new_blobs root g old files))
      (subst (λ (file : Option (List ℕ)). Soundly (settings_in (settings_place root) file)) (sym at.settings.stands) (settings_sound (settings_place root) at.settings.text at.settings.valid.0 at.settings.valid.1))
      (sum_sound 0 (new_blobs root g old files))

  -- no log is out of form
  full_sound : (uuid : List ℕ) (key : PlainKey) (fault : Fault) → IsFullFault repo uuid key g fault → IsSoundRefusal fault
  full_sound uuid key (TimeFull text) h = tt
  full_sound uuid key fault h = absurd h

  log_sound : (uuid : List ℕ) (key : PlainKey) (fault : Fault) → IsKey key → IsKeepFault repo uuid key g fault → IsSoundRefusal fault
  log_sound uuid key fault is (inl fails) = of_limit IsSoundRefusal large_sound fault ((readable root g at).logs key fault is fails)
  log_sound uuid key fault is (inr full) = full_sound uuid key fault full

  logs_sound : (uuid : List ℕ) (moment : ℕ) (list : List NewContent) (fault : Fault) → Each (λ x. IsKey x.key) list → IsFirstFault repo uuid moment g list fault → IsSoundRefusal fault
  logs_sound uuid moment [] fault keys fails = absurd fails
  logs_sound uuid moment (x ∷ list) fault keys (inl fails) = log_sound uuid x.key fault keys.0 fails
  logs_sound uuid moment (x ∷ list) fault keys (inr (wanted, is, fails)) = logs_sound uuid moment list fault keys.1 fails

  keeping_sound : (uuid : List ℕ) (moment : ℕ) (list : List NewContent) (keeps : Act (Unit {0})) → Each (λ x. IsKey x.key) list → HaveSources g list → IsKeepAll repo uuid list moment g keeps → EndsSoundly keeps
  keeping_sound uuid moment list keeps keys have (inl (fault, fails, is)) =
      subst (λ (act : Act (Unit {0})). EndsSoundly act) (sym is) (logs_sound uuid moment (firsts list) fault (firsts_each (λ x. IsKey x.key) list keys) fails)
  keeping_sound uuid moment list keeps keys have (inr (notes, are, is)) =
      let sources = unkept_each (λ x. (bytes : List ℕ) × (found_in x g ≡ Some bytes)) repo g (firsts list) (firsts_each (λ x. (bytes : List ℕ) × (found_in x g ≡ Some bytes)) list have) in
      subst (λ (act : Act (Unit {0})). EndsSoundly act) (sym is) (all_sound repo g (unkept repo (firsts list) g) notes sources)

  -- ON A GROUND that has the same at the places of objects
  module _ (h : Ground) (same : (x : NewObject) → is_tmp (place_in repo x) ≡ false → file_at h (place_in repo x) ≡ file_at g (place_in repo x)) where
    -- at an object's place stands an object with its id
    found_sound : (x : NewObject) (bytes : List ℕ) (o : Object) → file_at g (place_in repo x) ≡ Some bytes → held_at g repo (oid x.kind x.body) ≡ Some o → Soundly (found_fault repo x bytes)
    unfolding found_fault oid
    found_sound x bytes o file held =
        let is = held_is g repo (oid x.kind x.body) o held in
        let text : bytes ≡ text_of_object o.kind o.body = cc (sym file ∙ is.stands) in
        let known : is_object_text bytes ≡ true = by (is_object_text bytes) refl in
        let digest = (bytes_eq-Decides (oid o.kind o.body) (oid x.kind x.body)).1 is.named in
        subst (λ (z : List ℕ). Soundly (found_fault repo x z)) (sym text)
        (cond_sound (bytes_eq (text_of_object o.kind o.body) (object_text x)) None _ tt
        (subst (λ b. Soundly (cond b (cond (bytes_eq (oid o.kind o.body) (oid x.kind x.body)) (Some (Collision (oid x.kind x.body))) (Some (Damaged (place_in repo x)))) (Some (Damaged (place_in repo x))))) (sym (ap is_object_text (sym text) ∙ known))
        (subst (λ b. Soundly (cond b (Some (Collision (oid x.kind x.body))) (Some (Damaged (place_in repo x))))) (sym digest) tt)))
      where
        by : (b : Bool) → is_object_text bytes ≡ b → is_object_text bytes ≡ true
        by true e = e
        by false e = absurd (cc (sym held ∙ ap (object_of (oid x.kind x.body)) file ∙ none_of_text (oid x.kind x.body) bytes e))

    first_sound : (objects : List NewObject) → Soundly (first_fault repo objects h)
    first_sound [] = tt
    first_sound (x ∷ objects) =
        or_sound (fault_in repo x (file_at h (place_in repo x))) (first_fault repo objects h)
        (subst (λ (file : Option (List ℕ)). Soundly (fault_in repo x file)) (sym (same x (object_firm root (oid x.kind x.body) at.outside))) (by (file_at g (place_in repo x)) refl)) (first_sound objects)
      where
        by : (file : Option (List ℕ)) → file_at g (place_in repo x) ≡ file → Soundly (fault_in repo x file)
        by None e = tt
        by (Some bytes) e =
            let held = object_held root g at (oid x.kind x.body) bytes (oid_is_id x.kind x.body) e in
            found_sound x bytes held.0 e held.1

    long_objects : (objects : List NewObject) → Soundly (long_fault repo objects)
    long_objects [] = tt
    long_objects (x ∷ objects) = cond_sound (nat_lt repo_limit (length (text_of repo))) (large repo) None tt tt

    early_sound : (objects : List NewObject) → Soundly (early_fault repo objects h)
    early_sound [] = tt
    early_sound (x ∷ objects) =
        cond_sound (nat_lt object_limit (length (text_of repo))) (large repo) (or_next (first_fault repo (x ∷ objects) h) (long_fault repo (missing repo (x ∷ objects) h))) tt
        (or_sound (first_fault repo (x ∷ objects) h) (long_fault repo (missing repo (x ∷ objects) h)) (first_sound (x ∷ objects)) (long_objects (missing repo (x ∷ objects) h)))

    put_sound : (objects : List NewObject) → EndsSoundly (puts_objects repo objects h)
    unfolding puts_objects
    put_sound objects =
        bind_sound (unless (early_fault repo objects)) (λ t. puts_missing repo objects) h (unless_sound (early_fault repo objects) h (early_sound objects))
        (λ v. some_sound (staging repo 0 (missing repo objects (last_of (unless (early_fault repo objects) h) h))) (last_of (unless (early_fault repo objects) h) h))

  set_sound : (h : Ground) → head_at repo h ≡ head_at repo g → Soundly (set_fault repo h)
  set_sound h same =
      or_sound (head_fault repo h) (long_repo repo) (limit_sound (head_fault repo h) (head_read repo g at.heads.head at.heads.leads h same))
      (cond_sound (nat_lt repo_limit (length (text_of repo))) (large repo) None tt tt)

  sets_sound : (id : List ℕ) (h : Ground) → head_at repo h ≡ head_at repo g → EndsSoundly (sets_tip repo id h)
  unfolding sets_tip
  sets_sound id h same =
      bind_sound (unless (set_fault repo)) (λ t k. puts_one repo (tip_at repo k) (id_text id) k) h (unless_sound (set_fault repo) h (set_sound h same))
      (λ v. puts_sound (only (tmp_place repo 0) (tip_at repo (last_of (unless (set_fault repo) h) h)) (id_text id)) (last_of (unless (set_fault repo) h) h))

  -- THE SAVE
  module _ (wish : SaveWish) (parent : List ℕ) (by : KeepBy) (files : List WorkingFile) (keeps : Act (Unit {0})) (read : IsRead root wish.to_git g parent by files) (keep : IsKeepingOf root wish.moment g by files keeps) where
    kept_sound : EndsSoundly keeps
    kept_sound =
        keeping_sound keep.uuid wish.moment (contents root by files) keeps (have_keys root wish.to_git g parent by files read) (have_sources root wish.to_git g parent by files read) keep.keep

    contents_sound : (index : Step (Unit {0})) → IndexEnds index → (lines : List Line) → EndsSoundly (saves_contents index lines keeps g)
    unfolding saves_contents
    contents_sound index ends lines = bind_sound (λ h. keeps) (λ t. saves_lines index lines) g kept_sound (λ t. no_commit_sound index ends lines (last_of keeps g))

    module _ (index : Step (Unit {0})) (ends : IndexEnds index) (plan : SavePlan) where
      abbrev said : Step (Option Id)
      said = bind (says_all plan.lines) (λ w. gives (Some (record { 0 = plan.commit })))

      writes_sound : EndsSoundly (writes root index plan (last_of keeps g))
      unfolding gives
      writes_sound =
          bind_sound (puts_objects repo plan.objects) (λ t. bind (sets_tip repo plan.commit) (λ u. bind index (λ w. said))) (last_of keeps g)
          (put_sound (last_of keeps g) (object_same root g plan keeps (keeping_of root g wish.moment by files keeps keep)) plan.objects)
          (λ v. bind_sound (sets_tip repo plan.commit) (λ u. bind index (λ w. said)) _ (sets_sound plan.commit _ (ap (given head_given) (head_same root g plan keeps (keeping_of root g wish.moment by files keeps keep))))
          (λ u. bind_sound index (λ w. said) _ (ends _)
          (λ w. bind_sound (says_all plan.lines) (λ v. gives (Some (record { 0 = plan.commit }))) _ (lines_sound plan.lines _) (λ v. tt))))

      saves_sound : EndsSoundly (saves root index plan keeps g)
      unfolding saves unless
      saves_sound =
          bind_sound (unless (λ h. clash_fault [] plan.objects)) (λ t. bind (λ h. keeps) (λ u. writes root index plan)) g (ending_sound (clash_fault [] plan.objects) (clash_sound [] plan.objects))
          (λ t. bind_sound (λ h. keeps) (λ u. writes root index plan) g kept_sound (λ u. writes_sound))

  save_ends : (wish : SaveWish) (act : Act (Option Id)) → IsSave root wish g act → EndsSoundly act
  save_ends wish _ (unread fault why) = look_sound fault (unread_sound root g at wish.to_git fault why)
  save_ends wish _ (clean parent by files indexed read same own_index) = no_commit_sound _ (index_sound root indexed by.old) _ g
  save_ends wish _ (unplanned parent by files fault read changed why) = of_soundly (plan_fault root g by.old files) fault (plan_sound by.old files) why
  save_ends wish _ (kept parent by files keeps indexed read changed same none keep own_index) =
      contents_sound wish parent by files keeps read keep _ (index_sound root indexed by.old) (save_lines by.old files (codes "notneeded"))
  save_ends wish _ (clashing parent by files plan fault read other none planned clash) = of_soundly (clash_fault [] plan.objects) fault (clash_sound [] plan.objects) clash
  save_ends wish _ (saved parent by files plan keeps indexed read other none planned keep own_index) =
      saves_sound wish parent by files keeps read keep _ (index_sound root indexed (new_entries by.old files)) plan

pub is_complete : SaveIsComplete
is_complete root wish g act sound dataset is = save_ends root g (sound root dataset) wish act is
