-- The acts of a save, by the parts that their rounds change.
use Rattle.std.proofs.Common.{◌≡◌, inl, inr, ◌+◌, ℕ, Bool, true, false, cond, ◌||◌, List, [], ◌∷◌, ◌++◌, Option, Some, None, refl, sym, ap, ◌∙◌, subst}
use Rattle.std.specs.Prelude.{fold, is_some}
use Rattle.std.specs.List.{AllByRecursion}
use Rattle.places.specs.All.{Names, Ground, file_at, stands}
use Rattle.faults.specs.declared.faults.Fault.{Fault}
use Rattle.faults.specs.declared.lines.Line.{Line}
use Rattle.file_store.specs.All.{only, stage_block}
use Rattle.file_store.specs.declared.replacing.Replacement.{Replacement}
use Rattle.file_store.proofs.Consequences.{finally_other}
use Rattle.git_objects.specs.declared.ids.Id.{Id}
use Rattle.repository.specs.All.{id_text, index_place, is_tmp, repo_head, repo_of, tip_place}
use Rattle.repository.specs.All.{tmp_place}
use Rattle.repository.proofs.Unfinished.{head_firm, repo_below, repo_tmp}
use Rattle.acts.specs.All.{Act, Gives, Refuses, Step, bind, each, ending_of, gives, last_of, rounds_in, says, unless}
use Rattle.acts.specs.All.{fold as fold_steps}
use Rattle.annex_store.specs.All.{PlainNote, content_files, dirty_fault, found_in, keeps_all, log_files, puts_any, sets_notes, staged_act, stores, unkept, with_content, write_fault, firsts}
use Rattle.annex_store.specs.declared.members.NewContent.{NewContent}
use Rattle.index_store.specs.All.{keeps_index, sets_index, snapshot_text}
use Rattle.object_store.specs.All.{early_fault, has_place, missing, one_object_more, place_in, puts_missing, puts_objects, puts_some, staging}
use Rattle.object_store.specs.declared.objects.NewObject.{NewObject}
use Rattle.ref_store.specs.All.{branch_by, given, head_given, long_repo, set_fault, sets_tip, tip_at}
use Rattle.ref_store.specs.Setting.{puts_one}
use Rattle.snapshot.specs.declared.entries.Entry.{Entry}
use Rattle.tree_status.specs.All.{KeepBy}
use Rattle.tree_status.specs.declared.found.WorkingFile.{WorkingFile}
use Rattle.recursive_save.specs.Contents.{IsKeepingOf, contents}
use Rattle.recursive_save.specs.Saving.{SavePlan, clash_fault, says_all, saves, saves_contents, saves_lines, writes}
use Rattle.recursive_save.proofs.SaveRounds.{ArePutAt, Contents, Index, IsActOf, IsApart, Logs, Objects, Part, Tip, all_left, bind_of, more_of, no_round, object_apart, puts_of, skip_of, still_of, tip_apart}

-- ---- objects that are put stand nowhere yet

abbrev Gone : Names → Ground → NewObject → Type 0
Gone repo g x = file_at g (place_in repo x) ≡ None

is_none : (o : Option (List ℕ)) → is_some o ≡ false → o ≡ None
is_none None h = refl
is_none (Some text) h = absurd (cc h)

all_more : (repo : Names) (g : Ground) (xs : List NewObject) (x : NewObject) → AllByRecursion (Gone repo g) xs → Gone repo g x → AllByRecursion (Gone repo g) (xs ++ x ∷ [])
all_more repo g [] x gone one = (one, tt)
all_more repo g (y ∷ xs) x gone one = (gone.0, all_more repo g xs x gone.1 one)

more_gone : (repo : Names) (g : Ground) (objects some : List NewObject) → AllByRecursion (Gone repo g) some
    → AllByRecursion (Gone repo g) (fold (λ some object. one_object_more repo (stands g (place_in repo object)) some object) some objects)
more_gone repo g [] some gone = gone
more_gone repo g (x ∷ objects) some gone = more_gone repo g objects (one_object_more repo (stands g (place_in repo x)) some x) (by (stands g (place_in repo x)) (has_place repo some (place_in repo x)) refl)
  where
    by : (there has : Bool) → stands g (place_in repo x) ≡ there → AllByRecursion (Gone repo g) (cond (there || has) some (some ++ x ∷ []))
    by true has is = gone
    by false true is = gone
    by false false is = all_more repo g some x gone (is_none (file_at g (place_in repo x)) is)

all_gone : (repo : Names) (g : Ground) (objects : List NewObject) → AllByRecursion (Gone repo g) (missing repo objects g)
all_gone repo g objects = more_gone repo g objects [] tt

module _ (root : Names) (g : Ground) where
  abbrev repo : Names
  repo = repo_of root

  tmp_is : (i : ℕ) → is_tmp (tmp_place repo i) ≡ true
  tmp_is i = repo_tmp repo _ (repo_below root)

  -- ---- contents, and their logs

  contents_at : (i : ℕ) (list : List NewContent) (h : Ground) → ArePutAt root g Contents (content_files repo i list h)
  contents_at i [] h = tt
  contents_at i (x ∷ list) h = by (found_in x h) (contents_at (i + 1) list h)
    where
      by : (o : Option (List ℕ)) → ArePutAt root g Contents (content_files repo (i + 1) list h) → ArePutAt root g Contents (with_content repo i x o (content_files repo (i + 1) list h))
      by None rest = tt
      by (Some bytes) rest = ((tmp_is i, λ out. (x.key, refl)), rest)

  logs_at : (i : ℕ) (notes : List PlainNote) → ArePutAt root g Logs (log_files repo i notes)
  logs_at i [] = tt
  logs_at i (n ∷ notes) = ((tmp_is i, λ out. (n.key, refl)), logs_at (i + 1) notes)

  any_of : (part : Part) (list : List Replacement) (h : Ground) → ArePutAt root g part list → IsActOf root g (part ∷ []) (puts_any list h)
  unfolding gives
  any_of part [] h at = still_of root g (Gives tt) (part ∷ [])
  any_of part (r ∷ list) h at = puts_of root g part (r ∷ list) h at

  staged_of : (block : Option Names) (dirty : Option Fault) (list : List Replacement) (h : Ground) → ArePutAt root g Contents list → IsActOf root g (Contents ∷ []) (staged_act block dirty list h)
  staged_of (Some at) dirty list h put = still_of root g _ (Contents ∷ [])
  staged_of None (Some fault) list h put = still_of root g _ (Contents ∷ [])
  staged_of None None list h put = any_of Contents list h put

  stores_of : (list : List NewContent) (h : Ground) → IsActOf root g (Contents ∷ []) (stores repo list h)
  unfolding stores
  stores_of list h = staged_of (stage_block (content_files repo 0 list h) h) (dirty_fault list h) (content_files repo 0 list h) h (contents_at 0 list h)

  notes_of : (notes : List PlainNote) (h : Ground) → IsActOf root g (Logs ∷ []) (sets_notes repo notes h)
  unfolding sets_notes
  notes_of notes h = any_of Logs (log_files repo 0 notes) h (logs_at 0 notes)

  keeps_of : (list : List NewContent) (notes : List PlainNote) (h : Ground) → IsActOf root g (Contents ∷ Logs ∷ []) (keeps_all repo list notes h)
  unfolding keeps_all unless
  keeps_of list notes h =
      bind_of root g (unless (λ k. write_fault repo list notes)) (λ t. bind (stores repo list) (λ u. sets_notes repo notes)) h [] (Contents ∷ Logs ∷ []) (still_of root g (ending_of (write_fault repo list notes)) [])
      (λ v. bind_of root g (stores repo list) (λ u. sets_notes repo notes) h (Contents ∷ []) (Logs ∷ []) (stores_of list h) (λ w. notes_of notes _))

  pub keeping_of : (moment : ℕ) (by : KeepBy) (files : List WorkingFile) (keeps : Act (Unit {0})) → IsKeepingOf root moment g by files keeps → IsActOf root g (Contents ∷ Logs ∷ []) keeps
  keeping_of moment by files keeps keeping = elim keeping.keep [
    | inl refused ↦ subst (IsActOf root g (Contents ∷ Logs ∷ [])) (sym refused.2) (still_of root g (Refuses refused.0) (Contents ∷ Logs ∷ []))
    | inr kept ↦ subst (IsActOf root g (Contents ∷ Logs ∷ [])) (sym kept.2) (keeps_of (unkept repo (firsts (contents root by files)) g) kept.0 g)
  ]

  -- ---- lines

  line_of : (line : Line) (h : Ground) → IsActOf root g [] (says line h)
  unfolding says
  line_of line h = record { rounds = no_round root g []; firm = λ q out. refl }

  lines_of : (lines : List Line) (h : Ground) → IsActOf root g [] (says_all lines h)
  unfolding fold_steps gives says
  lines_of [] h = still_of root g (Gives tt) []
  lines_of (line ∷ lines) h = bind_of root g (says line) (λ t. each says lines) h [] [] (line_of line h) (λ v. lines_of lines h)

  given_of : {V : Type 0} (v : V) (h : Ground) → IsActOf root g [] (gives v h)
  unfolding gives
  given_of v h = still_of root g (Gives v) []

  -- ---- the index

  set_index_of : (list : List Entry) (h : Ground) → IsActOf root g (Index ∷ []) (sets_index root list h)
  unfolding sets_index unless
  set_index_of list h =
      bind_of root g (unless (λ k. long_repo repo)) (λ t. puts_one repo (index_place root) (snapshot_text list)) h [] (Index ∷ []) (still_of root g (ending_of (long_repo repo)) [])
      (λ v. puts_of root g Index (only (tmp_place repo 0) (index_place root) (snapshot_text list)) h ((tmp_is 0, λ out. refl), tt))

  pub index_of : (indexed : Bool) (list : List Entry) (h : Ground) → IsActOf root g (Index ∷ []) (keeps_index indexed root list h)
  index_of true list h = more_of root g (given_of tt h) (Index ∷ [])
  index_of false list h = set_index_of list h

  abbrev IsIndexing : Step (Unit {0}) → Type 0
  IsIndexing index = (h : Ground) → IsActOf root g (Index ∷ []) (index h)

  -- ---- no commit

  pub saves_lines_of : (index : Step (Unit {0})) → IsIndexing index → (lines : List Line) (h : Ground) → IsActOf root g (Index ∷ []) (saves_lines index lines h)
  unfolding saves_lines
  saves_lines_of index indexes lines h =
      bind_of root g index (λ t. bind (says_all lines) (λ u. gives None)) h (Index ∷ []) [] (indexes h)
      (λ v. bind_of root g (says_all lines) (λ u. gives None) _ [] [] (lines_of lines _) (λ w. given_of None _))

  pub contents_of : (index : Step (Unit {0})) → IsIndexing index → (lines : List Line) (keeps : Act (Unit {0})) → IsActOf root g (Contents ∷ Logs ∷ []) keeps
      → IsActOf root g (Contents ∷ Logs ∷ Objects ∷ Tip ∷ Index ∷ []) (saves_contents index lines keeps g)
  unfolding saves_contents
  contents_of index indexes lines keeps keeping =
      bind_of root g (λ h. keeps) (λ t. saves_lines index lines) g (Contents ∷ Logs ∷ []) (Objects ∷ Tip ∷ Index ∷ []) keeping
      (λ v. skip_of root g (Objects ∷ Tip ∷ []) (saves_lines_of index indexes lines (last_of keeps g)))

  -- ---- objects and the tip

  -- on a ground that has the same at the places of objects
  objects_at : (h : Ground) → ((x : NewObject) → is_tmp (place_in repo x) ≡ false → file_at h (place_in repo x) ≡ file_at g (place_in repo x)) → (i : ℕ) (objects : List NewObject) → AllByRecursion (Gone repo h) objects → ArePutAt root g Objects (staging repo i objects)
  objects_at h same i [] gone = tt
  objects_at h same i (x ∷ objects) gone = ((tmp_is i, λ out. (x, sym (same x out) ∙ gone.0, refl)), objects_at h same (i + 1) objects gone.1)

  some_of : (list : List Replacement) (h : Ground) → ArePutAt root g Objects list → IsActOf root g (Objects ∷ []) (puts_some list h)
  unfolding gives
  some_of [] h at = still_of root g (Gives tt) (Objects ∷ [])
  some_of (r ∷ list) h at = puts_of root g Objects (r ∷ list) h at

  put_of : (objects : List NewObject) (h : Ground) → ((x : NewObject) → is_tmp (place_in repo x) ≡ false → file_at h (place_in repo x) ≡ file_at g (place_in repo x)) → IsActOf root g (Objects ∷ []) (puts_objects repo objects h)
  unfolding puts_objects unless
  put_of objects h same =
      bind_of root g (unless (early_fault repo objects)) (λ t. puts_missing repo objects) h [] (Objects ∷ []) (still_of root g (ending_of (early_fault repo objects h)) [])
      (λ v. some_of (staging repo 0 (missing repo objects h)) h (objects_at h same 0 (missing repo objects h) (all_gone repo h objects)))

  tip_of : (id : List ℕ) (h : Ground) → file_at h (repo_head repo) ≡ file_at g (repo_head repo) → IsActOf root g (Tip ∷ []) (sets_tip repo id h)
  unfolding sets_tip unless
  tip_of id h same =
      bind_of root g (unless (set_fault repo)) (λ t k. puts_one repo (tip_at repo k) (id_text id) k) h [] (Tip ∷ []) (still_of root g (ending_of (set_fault repo h)) [])
      (λ v. puts_of root g Tip (only (tmp_place repo 0) (tip_at repo h) (id_text id)) h ((tmp_is 0, λ out. ap (λ (file : Option (List ℕ)). tip_place repo (branch_by (given head_given file))) same), tt))

  -- ---- the save

  module _ (plan : SavePlan) (keeps : Act (Unit {0})) (keeping : IsActOf root g (Contents ∷ Logs ∷ []) keeps) where
    -- the ground at which the objects are put, and that at which the tip is set
    abbrev kept_ground : Ground
    kept_ground = last_of keeps g

    abbrev put_ground : Ground
    put_ground = last_of (puts_objects repo plan.objects kept_ground) kept_ground

    kept_same : (q : Names) → is_tmp q ≡ false → IsApart root g (Contents ∷ Logs ∷ []) q → file_at kept_ground q ≡ file_at g q
    kept_same q out apart = finally_other (rounds_in keeps) g q (all_left root g q out keeping.rounds apart)

    pub object_same : (x : NewObject) → is_tmp (place_in repo x) ≡ false → file_at kept_ground (place_in repo x) ≡ file_at g (place_in repo x)
    object_same x out = kept_same (place_in repo x) out (object_apart root g x)

    put : IsActOf root g (Objects ∷ []) (puts_objects repo plan.objects kept_ground)
    put = put_of plan.objects kept_ground object_same

    pub head_same : file_at put_ground (repo_head repo) ≡ file_at g (repo_head repo)
    head_same =
        finally_other (rounds_in (puts_objects repo plan.objects kept_ground)) kept_ground (repo_head repo) (all_left root g (repo_head repo) (head_firm root) put.rounds (tip_apart root g Objects None (λ e. cc e), tt))
        ∙ kept_same (repo_head repo) (head_firm root) (tip_apart root g Contents None (λ e. cc e), (tip_apart root g Logs None (λ e. cc e), tt))

    module _ (index : Step (Unit {0})) (indexes : IsIndexing index) where
      abbrev said : Step (Option Id)
      said = bind (says_all plan.lines) (λ w. gives (Some (record { 0 = plan.commit })))

      writes_of : IsActOf root g (Objects ∷ Tip ∷ Index ∷ []) (writes root index plan kept_ground)
      writes_of =
          bind_of root g (puts_objects repo plan.objects) (λ t. bind (sets_tip repo plan.commit) (λ u. bind index (λ w. said))) kept_ground (Objects ∷ []) (Tip ∷ Index ∷ []) put
          (λ t. bind_of root g (sets_tip repo plan.commit) (λ u. bind index (λ w. said)) put_ground (Tip ∷ []) (Index ∷ []) (tip_of plan.commit put_ground head_same)
          (λ u. bind_of root g index (λ w. said) _ (Index ∷ []) [] (indexes _)
          (λ w. bind_of root g (says_all plan.lines) (λ v. gives (Some (record { 0 = plan.commit }))) _ [] [] (lines_of plan.lines _) (λ v. given_of _ _))))

      pub saves_of : IsActOf root g (Contents ∷ Logs ∷ Objects ∷ Tip ∷ Index ∷ []) (saves root index plan keeps g)
      unfolding saves unless
      saves_of =
          bind_of root g (unless (λ h. clash_fault [] plan.objects)) (λ t. bind (λ h. keeps) (λ u. writes root index plan)) g [] (Contents ∷ Logs ∷ Objects ∷ Tip ∷ Index ∷ []) (still_of root g (ending_of (clash_fault [] plan.objects)) [])
          (λ t. bind_of root g (λ h. keeps) (λ u. writes root index plan) g (Contents ∷ Logs ∷ []) (Objects ∷ Tip ∷ Index ∷ []) keeping (λ u. writes_of))
