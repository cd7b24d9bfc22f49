-- Settings of HEAD and of tips, and saves, keep a ground sound.
use Rattle.std.proofs.Common.{◌≡◌, ℕ, zero, suc, List, [], ◌∷◌, Option, Some, None, refl, sym, ap, ◌∙◌, subst}
use Rattle.std.specs.Prelude.{option_map}
use Rattle.places.specs.All.{Names, Ground, file_at}
use Rattle.faults.specs.declared.faults.Fault.{Fault}
use Rattle.file_store.specs.All.{Round, changed, finally, or_next, only}
use Rattle.file_store.specs.declared.replacing.Replacement.{Replacement}
use Rattle.file_store.proofs.Rounds.{finally-append}
use Rattle.repository.specs.All.{Head as Led, id_text, id_in, branch_in, head_of, repo_of}
use Rattle.repository.specs.All.{repo_head, branch_place, tip_place, tmp_place, is_tmp}
use Rattle.repository.proofs.Heading.{reads_detached}
use Rattle.repository.proofs.HeadTexts.{branch_in-only}
use Rattle.repository.proofs.Temporary.{tmp_inside}
use Rattle.repository.proofs.Unfinished.{tmp_firm}
use Rattle.acts.specs.All.{Act, Ending, Gives, Refuses, Breaks, Step, rounds_in, last_of, still}
use Rattle.acts.specs.All.{ending_of, go_on, bind, unless}
use Rattle.object_store.specs.All.{with_objects, puts_objects}
use Rattle.object_store.specs.declared.objects.NewObject.{NewObject}
use Rattle.ref_store.specs.All.{detached, attached, branch_of, head_text, head_given, with_id}
use Rattle.ref_store.specs.All.{given, head_at, long_place, damaged_unless, head_fault, branch_by}
use Rattle.ref_store.specs.All.{long_repo, set_fault, tip_at, puts_one, sets_tip, sets_head}
use Rattle.ref_store.specs.declared.heads.Head.{Head}
use Rattle.ref_store.specs.declared.heads.Head.TheVariants.{Branch, Detached}
use Rattle.ref_store.proofs.Leading.{same_branch}
use Rattle.dataset.specs.Watched.{IsRoot, SameWatched}
use Rattle.dataset.specs.Whole.{IsWhole}
use Rattle.dataset.specs.Rounds.{KeepsSound, CanSet}
use Rattle.dataset.specs.Leads.{CanLead}
use Rattle.dataset.specs.Moments.{ActKeeps}
use Rattle.dataset.specs.Refs.{IsTipSet, led_by, IsHeadSet, IsDone}
use Rattle.dataset.specs.Saves.{IsSave}
use Rattle.dataset.specs.Steps.{GoByTmp}
use Rattle.dataset.proofs.Leading.{branch_keeps, is_led}
use Rattle.dataset.proofs.Saving.{neither}
use Rattle.dataset.proofs.Setting.{tip_keeps, new_head}
use Rattle.dataset.proofs.Putting.{put_heads, after_some}
use Rattle.dataset.proofs.Steps.{none_watched, rounds_append, bind_keeps, puts_keep, puts_leave, put_objects_keep, put_objects_leave}
use Rattle.dataset.proofs.Watching.{same_heads, same_held}
use Rattle.dataset.proofs.Wholes.{whole_stays}

-- ---- one file, by way of the first temporary place

only_by_tmp : (root place : Names) (bytes : List ℕ) → GoByTmp (only (tmp_place (repo_of root) 0) place bytes)
only_by_tmp root place bytes zero r at =
    let same : record { tmp = tmp_place (repo_of root) 0; place = place; bytes = bytes } ≡ r = cc at in
    ap (λ (z : Replacement). is_tmp z.tmp) (sym same) ∙ tmp_firm root (tmp_place (repo_of root) 0) (tmp_inside (repo_of root) 0)
only_by_tmp root place bytes (suc i) r at = absurd (cc at)

module _ (root place : Names) (bytes : List ℕ) (g : Ground) where
  pub one_keeps : KeepsSound ((place, Some bytes) ∷ []) g → ActKeeps (puts_one (repo_of root) place bytes g) g
  one_keeps keeps = puts_keep (only (tmp_place (repo_of root) 0) place bytes) g (only_by_tmp root place bytes) keeps

  one_leaves : (puts_one (repo_of root) place bytes g).ending ≡ Gives tt → SameWatched (last_of (puts_one (repo_of root) place bytes g) g) (changed ((place, Some bytes) ∷ []) g)
  one_leaves is = puts_leave (only (tmp_place (repo_of root) 0) place bytes) g (only_by_tmp root place bytes) is

-- ---- a step that may be refused before it

module _ (step : Step (Unit {0})) (g : Ground) where
  abbrev tested : Option Fault → Act (Unit {0})
  tested o = go_on (still (ending_of o)) (ending_of o) g (λ _. step)

  tested_keeps : (o : Option Fault) → (o ≡ None → ActKeeps (step g) g) → ActKeeps (tested o) g
  tested_keeps None keeps = let kept = keeps refl in record { rounds = kept.rounds; loose = kept.loose }
  tested_keeps (Some fault) keeps = record { rounds = tt; loose = none_watched }

  tested_leads : (root : Names) (led : Led) (o : Option Fault) → ((step g).ending ≡ Gives tt → head_of (last_of (step g) g) (repo_of root) ≡ Some led)
      → (tested o).ending ≡ Gives tt → head_of (last_of (tested o) g) (repo_of root) ≡ Some led
  tested_leads root led None leads is = leads is
  tested_leads root led (Some fault) leads is = absurd (cc is)

-- ---- the tip

module _ (root : Names) (id : List ℕ) (g : Ground) (outside : IsRoot root) (whole : IsWhole (repo_of root) id g) where
  abbrev repo : Names
  repo = repo_of root

  abbrev tip_step : Step (Unit {0})
  tip_step = λ h. puts_one repo (tip_at repo h) (id_text id) h

  at_head : (o : Option Head) → damaged_unless (repo_head repo) o ≡ None → (head : Head) × (o ≡ Some head)
  at_head None none = absurd (cc none)
  at_head (Some head) none = (head, refl)

  -- by the text of HEAD
  by_text : (text : List ℕ) → file_at g (repo_head repo) ≡ Some text → (o p : Option (List ℕ)) → id_in text ≡ o → branch_in text ≡ p → (head : Head)
      → or_next (option_map (λ i. detached i) o) (option_map (λ name. attached name) p) ≡ Some head → KeepsSound ((tip_place repo (branch_of head), Some (id_text id)) ∷ []) g
  by_text text stands (Some i) p is named head e =
      let same : detached i ≡ head = cc e in
      let can : CanSet repo None id g = record {
        head = record { branch = None; id = i };
        leads = reads_detached (λ name. file_at g (branch_place repo name)) (file_at g (repo_head repo)) (record { branch = None; id = i }) (record { text = text; stands = stands; names = is; branch = refl });
        same = refl;
        whole = whole;
      } in
      subst (λ (h : Head). KeepsSound ((tip_place repo (branch_of h), Some (id_text id)) ∷ []) g) same (tip_keeps root None id g outside can)
  by_text text stands None (Some name) is named head e =
      let same : attached name ≡ head = cc e in
      subst (λ (h : Head). KeepsSound ((tip_place repo (branch_of h), Some (id_text id)) ∷ []) g) same (branch_keeps root name id g outside (branch_in-only text name named).1 whole)
  by_text text stands None None is named head e = absurd (cc e)

  by_file : (file : Option (List ℕ)) → file_at g (repo_head repo) ≡ file → (head : Head) → given head_given file ≡ Some head → KeepsSound ((tip_place repo (branch_of head), Some (id_text id)) ∷ []) g
  by_file None stands head e = absurd (cc e)
  by_file (Some text) stands head e = by_text text stands (id_in text) (branch_in text) refl refl head e

  tip_file_keeps : set_fault repo g ≡ None → KeepsSound ((tip_at repo g, Some (id_text id)) ∷ []) g
  tip_file_keeps none =
      let read = (neither (long_place (repo_head repo)) (damaged_unless (repo_head repo) (head_at repo g)) (neither (head_fault repo g) (long_repo repo) none).0).1 in
      let at = at_head (head_at repo g) read in
      subst (λ (o : Option Head). KeepsSound ((tip_place repo (branch_by o), Some (id_text id)) ∷ []) g) (sym at.1) (by_file (file_at g (repo_head repo)) refl at.0 at.1)

  -- where it leads
  module _ (head : Led) (led : head_of g repo ≡ Some head) where
    tip_is : (o : Option Head) → option_map branch_of o ≡ Some head.branch → tip_place repo (branch_by o) ≡ tip_place repo head.branch
    tip_is None e = absurd (cc e)
    tip_is (Some h) e = let same : branch_of h ≡ head.branch = cc e in ap (tip_place repo) same

    can_set : CanSet repo head.branch id g
    can_set = record { head = head; leads = led; same = refl; whole = whole }

    step_leads : (tip_step g).ending ≡ Gives tt → head_of (last_of (tip_step g) g) repo ≡ Some (with_id head id)
    step_leads is =
        same_heads (changed ((tip_at repo g, Some (id_text id)) ∷ []) g) (last_of (tip_step g) g) (one_leaves root (tip_at repo g) (id_text id) g is) root outside
        ∙ ap (λ (place : Names). head_of (changed ((place, Some (id_text id)) ∷ []) g) repo) (tip_is (head_at repo g) (same_branch repo g head led))
        ∙ new_head root id g outside head.branch can_set

  pub tip_set : IsTipSet root id g
  unfolding sets_tip bind unless
  tip_set = record {
    keeps = tested_keeps tip_step g (set_fault repo g) (λ none. one_keeps root (tip_at repo g) (id_text id) g (tip_file_keeps none));
    leads = λ head led is. tested_leads tip_step g root (with_id head id) (set_fault repo g) (step_leads head led) is;
  }

-- ---- HEAD

module _ (root : Names) (tip : List ℕ) (g : Ground) (outside : IsRoot root) where
  abbrev head_step : Head → Step (Unit {0})
  head_step head = puts_one (repo_of root) (repo_head (repo_of root)) (head_text head)

  head_file_keeps : (head : Head) → CanLead root (led_by head tip) g → KeepsSound ((repo_head (repo_of root), Some (head_text head)) ∷ []) g
  head_file_keeps (Branch name) can = (is_led root (led_by (Branch name) tip) g outside can).keep
  head_file_keeps (Detached id) can = (is_led root (led_by (Detached id) tip) g outside can).keep

  head_file_leads : (head : Head) → CanLead root (led_by head tip) g → head_of (changed ((repo_head (repo_of root), Some (head_text head)) ∷ []) g) (repo_of root) ≡ Some (led_by head tip)
  head_file_leads (Branch name) can = (is_led root (led_by (Branch name) tip) g outside can).leads
  head_file_leads (Detached id) can = (is_led root (led_by (Detached id) tip) g outside can).leads

  pub head_set : (head : Head) → CanLead root (led_by head tip) g → IsHeadSet root head tip g
  unfolding sets_head bind unless
  head_set head can = record {
    keeps = tested_keeps (head_step head) g (long_repo (repo_of root)) (λ none. one_keeps root (repo_head (repo_of root)) (head_text head) g (head_file_keeps head can));
    leads = λ is. tested_leads (head_step head) g root (led_by head tip) (long_repo (repo_of root)) (λ done.
        same_heads (changed ((repo_head (repo_of root), Some (head_text head)) ∷ []) g) (last_of (head_step head g) g) (one_leaves root (repo_head (repo_of root)) (head_text head) g done) root outside
        ∙ head_file_leads head can) is;
  }

-- ---- a save

module _ (root : Names) (head : Led) (objects : List NewObject) (id : List ℕ) (g : Ground) (save : IsSave root head objects id g) where
  abbrev store : Names
  store = repo_of root

  abbrev put_step : Step (Unit {0})
  put_step = puts_objects store objects

  abbrev between : Ground
  between = last_of (put_step g) g

  abbrev defined : Ground
  defined = with_objects store objects g

  module _ (done : (put_step g).ending ≡ Gives tt) where
    same : SameWatched between defined
    same = put_objects_leave root objects g done

    whole_between : IsWhole store id between
    whole_between = whole_stays store defined between (same_held defined between same root save.outside) id save.whole

    led_between : head_of between store ≡ Some head
    led_between = same_heads defined between same root save.outside ∙ put_heads root objects g defined save.outside save.put (after_some store objects g) root save.outside ∙ save.leads

  -- by the ending of the put
  abbrev go : Ending (Unit {0}) → Act (Unit {0})
  go ending = go_on (put_step g) ending g (λ _. sets_tip store id)

  go_leads : (ending : Ending (Unit {0})) → (put_step g).ending ≡ ending → (go ending).ending ≡ Gives tt → head_of (last_of (go ending) g) store ≡ Some (with_id head id)
  go_leads (Gives v) is done =
      ap (λ (rs : List Round). head_of (finally rs g) store) (rounds_append (put_step g).events (sets_tip store id between).events)
      ∙ ap (λ (h : Ground). head_of h store) (finally-append (rounds_in (put_step g)) (rounds_in (sets_tip store id between)) g)
      ∙ (tip_set root id between save.outside (whole_between is)).leads head (led_between is) done
  go_leads (Refuses fault) is done = absurd (cc done)
  go_leads (Breaks fault) is done = absurd (cc done)

  pub is_done : IsDone root head objects id g
  unfolding bind
  is_done = record {
    keeps = bind_keeps put_step (λ _. sets_tip store id) g (put_objects_keep root objects g save.outside save.put.parents) (λ v is. (tip_set root id between save.outside (whole_between is)).keeps);
    leads = go_leads (put_step g).ending refl;
  }
