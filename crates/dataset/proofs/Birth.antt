-- Without HEAD there is no dataset: what is put in the repository of a root keeps a ground sound until HEAD stands.
use Rattle.std.proofs.Common.{◌≡◌, ◌⊎◌, ◌≢◌, inl, inr, ⊎_elim, ℕ, Bool, true, false, List, [], ◌∷◌, ◌++◌, Some, None, refl, sym, ap, ◌∙◌, subst}
use Rattle.std.specs.Prelude.{codes, bytes_eq, is_some}
use Rattle.std.specs.FinMap.{insert}
use Rattle.std.proofs.lemmas.Bool.{false≢true}
use Rattle.std.proofs.lemmas.List.{append_cancel_right}
use Rattle.places.specs.All.{Names, pieces, Ground, file_at}
use Rattle.places.proofs.Grounds.{cases_place, file_at-insert_same, file_at-insert_other}
use Rattle.file_store.specs.All.{Round, changed}
use Rattle.git_objects.specs.All.{IsId, hex_of, oid}
use Rattle.git_objects.specs.declared.ids.Id.{Id}
use Rattle.repository.specs.All.{head_in, head_of, id_in, id_text, ref_text, is_branch, dlrepo}
use Rattle.repository.specs.All.{repo_of, head_place, settings_place, branch_place, object_names}
use Rattle.repository.specs.All.{object_place}
use Rattle.repository.proofs.Holds.{held_is}
use Rattle.object_store.specs.All.{with_objects}
use Rattle.object_store.specs.declared.objects.NewObject.{NewObject}
use Rattle.annex_store.specs.All.{content_names, content_place, log_names}
use Rattle.dataset.specs.Watched.{IsRoot, IsWatched}
use Rattle.dataset.specs.Whole.{Has, IsWhole}
use Rattle.dataset.specs.Sound.{HasSoundObjects, IsSoundAt, Sound, HoldsAll, HoldsContents}
use Rattle.dataset.specs.Rounds.{LiesWatched, IsIntact, KeepsSound, AllKeepSound, CanPut}
use Rattle.dataset.specs.Births.{bare_round, birth_rounds, IsBirth, IsBorn}
use Rattle.dataset.proofs.Splits.{head_names, is_head_name, AreBare, no_head_at, split_once, is_watched_name, watched_at, head_is_watched, head_watched, object_watched, settings_watched, tmp_watched, branch_plain, branch_watched}
use Rattle.repository.proofs.HeadTexts.{id_in-text}
use Rattle.dataset.proofs.Heading.{now_named}
use Rattle.dataset.proofs.KeyPlaces.{content_watched, is_annex_name, log_watched}
use Rattle.dataset.proofs.Logs.{no_logs, stands_as}
use Rattle.dataset.proofs.Wholes.{whole_stays, whole_is_id}
use Rattle.dataset.proofs.Watching.{is_object_name, SameRest, head_as, grown, held_in, objects_as}
use Rattle.dataset.proofs.Putting.{objects_keep, put_rest, put_objects, after_some}
use Rattle.dataset.proofs.Rows.{old_or_new, unwatched_more, one_keeps}

abbrev is_first : List ℕ → Names → Bool
is_first c [] = false
is_first c (n ∷ ns) = bytes_eq n c

-- a watched place in the repository of a root, neither an object's nor below `annex`
record IsBareIn (root q : Names) : Type 0 where
  names : Names
  place : q ≡ repo_of root ++ names
  bare : AreBare names
  other : is_object_name names ≡ false
  annex : is_annex_name names ≡ false

-- ---- a round in the repository of a root that has no HEAD

module _ (root : Names) (round : Round) (g : Ground) (outside : IsRoot root) (unborn : file_at g (head_place root) ≡ None)
    (inside : (q : Names) → IsWatched q → (file_at (changed round g) q ≡ file_at g q) ⊎ IsBareIn root q) where
  module _ (x : Ground) (lies : LiesWatched g (changed round g) x) where
    seen : (q : Names) → IsWatched q → (file_at x q ≡ file_at g q) ⊎ IsBareIn root q
    seen q watched = ⊎_elim (λ same. inl same) (λ new. ⊎_elim (λ kept. inl (new ∙ kept)) (λ is. inr is) (inside q watched)) (old_or_new g (changed round g) x lies q watched)

    head_same : (s : Names) → IsWatched (head_place s) → file_at x (head_place s) ≡ file_at g (head_place s)
    head_same s watched = ⊎_elim (λ same. same) (λ is. absurd (no_head_at s root is.names outside is.bare is.place)) (seen (head_place s) watched)

    object_same : (s : Names) → IsRoot s → (id : List ℕ) → file_at x (object_place (repo_of s) id) ≡ file_at g (object_place (repo_of s) id)
    object_same s apart id =
        ⊎_elim (λ same. same)
        (λ is. let no : true ≡ false = ap is_object_name (split_once s root (object_names (hex_of id)) is.names apart outside is.place).1 ∙ is.other in absurd (cc no))
        (seen (object_place (repo_of s) id) (watched_at s (object_names (hex_of id)) apart (object_watched (hex_of id))))

    contents_stay : HoldsContents g x
    contents_stay s apart key stored =
        stands_as (repo_of s) key g x (⊎_elim (λ same. same)
        (λ is. let no : true ≡ false = ap is_annex_name (split_once s root (content_names key) is.names apart outside is.place).1 ∙ is.annex in absurd (cc no))
        (seen (content_place (repo_of s) key) (watched_at s (content_names key) apart (content_watched key))))

    other_same : (s : Names) → IsRoot s → s ≢ root → SameRest s x g
    other_same s apart differ names watched object =
        ⊎_elim (λ same. same) (λ is. absurd (differ (split_once s root names is.names apart outside is.place).0)) (seen (repo_of s ++ names) (watched_at s names apart watched))

    unborn_head : head_of x (repo_of root) ≡ head_of g (repo_of root)
    unborn_head =
        ap (head_in (λ name. file_at x (branch_place (repo_of root) name))) (head_same root (head_is_watched root) ∙ unborn)
        ∙ sym (ap (head_in (λ name. file_at g (branch_place (repo_of root) name))) unborn)

    unborn_intact : Sound g → IsIntact g (changed round g) x
    unborn_intact sound = record {
      sound = λ s is.
          let there = ap is_some (sym (head_same s (head_is_watched s))) ∙ is in
          let at = sound s there in
          let differ : s ≢ root = λ e. false≢true (sym (ap is_some unborn) ∙ ap (λ (r : Names). is_some (file_at g (head_place r))) (sym e) ∙ there) in
          grown s g x (other_same s at.outside differ) (held_in (repo_of s) g x (object_same s at.outside)) (objects_as (repo_of s) g x (object_same s at.outside) at.objects) at;
      heads = inl (λ s apart. elim (cases_place s root) [
        | inl e ↦ subst (λ (r : Names). head_of x (repo_of r) ≡ head_of g (repo_of r)) (sym e) unborn_head
        | inr differ ↦ head_as s g x (other_same s apart differ)
      ]);
      held = λ s apart. held_in (repo_of s) g x (object_same s apart);
      contents = contents_stay;
    }

  unborn_keeps : KeepsSound round g
  unborn_keeps sound x lies = unborn_intact x lies sound

-- ---- the three rounds

module _ (root : Names) (objects : List NewObject) (work : Round) (settings name id : List ℕ) (g : Ground) (birth : IsBirth root objects work settings name id g) where
  abbrev repo : Names
  repo = repo_of root

  abbrev first : Ground
  first = with_objects repo objects g

  abbrev second : Ground
  second = changed (bare_round root work settings name id) first

  abbrev third : Ground
  third = insert second (head_place root) (ref_text name)

  can : CanPut repo objects g
  can = record {
    free = λ o has. inl (birth.vacant (object_names (hex_of (oid o.kind o.body))));
    parents = λ o has kind fields text p in_parents. absurd (subst (λ (ps : List Id). Has ps p) (birth.first o has kind fields text) in_parents);
  }

  first_rest : SameRest root first g
  first_rest = put_rest root objects g first birth.outside can (after_some repo objects g) root birth.outside

  first_none : (names : Names) → is_watched_name names ≡ true → is_object_name names ≡ false → file_at first (repo ++ names) ≡ None
  first_none names watched other = first_rest names watched other ∙ birth.vacant names

  no_objects : HasSoundObjects repo g
  no_objects = record {
    named = λ i is there. absurd (cc (sym there ∙ ap is_some (birth.vacant (object_names (hex_of i)))));
    parents = λ i fields commit.
        let stands = (held_is g repo i _ commit.held).stands in
        absurd (cc (sym stands ∙ birth.vacant (object_names (hex_of i))));
  }

  first_objects : HasSoundObjects repo first
  first_objects = put_objects root objects g first birth.outside can (after_some repo objects g) root birth.outside no_objects

  -- ---- the second round

  abbrev branch_names : Names
  branch_names = codes "refs" ∷ codes "heads" ∷ pieces name

  second_settings : (q : Names) → IsWatched q → q ≡ settings_place root → file_at second q ≡ Some settings
  second_settings q watched is =
      unwatched_more work _ first birth.unwatched q watched ∙ file_at-insert_same (insert first (branch_place repo name) (id_text id)) (settings_place root) settings q is

  second_branch : (q : Names) → IsWatched q → q ≢ settings_place root → q ≡ branch_place repo name → file_at second q ≡ Some (id_text id)
  second_branch q watched other is =
      unwatched_more work _ first birth.unwatched q watched
      ∙ file_at-insert_other (insert first (branch_place repo name) (id_text id)) (settings_place root) settings q other
      ∙ file_at-insert_same first (branch_place repo name) (id_text id) q is

  second_other : (q : Names) → IsWatched q → q ≢ settings_place root → q ≢ branch_place repo name → file_at second q ≡ file_at first q
  second_other q watched other apart =
      unwatched_more work _ first birth.unwatched q watched
      ∙ file_at-insert_other (insert first (branch_place repo name) (id_text id)) (settings_place root) settings q other
      ∙ file_at-insert_other first (branch_place repo name) (id_text id) q apart

  second_inside : (q : Names) → IsWatched q → (file_at second q ≡ file_at first q) ⊎ IsBareIn root q
  second_inside q watched = elim (cases_place q (settings_place root)) [
    | inl is ↦ inr (record { names = codes "config" ∷ []; place = is; bare = record { inner = refl; other = refl }; other = refl; annex = refl })
    | inr other ↦ elim (cases_place q (branch_place repo name)) [
      | inl is ↦ inr (record { names = branch_names; place = is; bare = record { inner = branch_plain name birth.named; other = refl }; other = refl; annex = refl })
      | inr apart ↦ inl (second_other q watched other apart)
    ]
  ]

  second_keeps : KeepsSound (bare_round root work settings name id) first
  second_keeps = unborn_keeps root (bare_round root work settings name id) first birth.outside (first_none head_names head_watched refl) second_inside

  -- ---- the third round

  no_head_in : (s names : Names) → IsRoot s → is_head_name names ≡ false → repo_of s ++ names ≢ head_place root
  no_head_in s names apart other e =
      let no : false ≡ true = sym other ∙ ap is_head_name (split_once s root names head_names apart birth.outside e).1 in
      cc no

  third_other : (s names : Names) → IsRoot s → is_head_name names ≡ false → file_at third (repo_of s ++ names) ≡ file_at second (repo_of s ++ names)
  third_other s names apart other = file_at-insert_other second (head_place root) (ref_text name) (repo_of s ++ names) (no_head_in s names apart other)

  third_objects : (s : Names) → IsRoot s → (i : List ℕ) → file_at third (object_place (repo_of s) i) ≡ file_at second (object_place (repo_of s) i)
  third_objects s apart i = third_other s (object_names (hex_of i)) apart refl

  third_holds : HoldsAll second third
  third_holds s apart = held_in (repo_of s) second third (third_objects s apart)

  third_contents : HoldsContents second third
  third_contents s apart key is = stands_as (repo_of s) key second third (third_other s (content_names key) apart refl)

  -- a place that neither round wrote
  not_settings : (names : Names) → is_first (codes "config") names ≡ false → repo ++ names ≢ settings_place root
  not_settings names other e =
      let no : false ≡ true = sym other ∙ ap (is_first (codes "config")) (split_once root root names (codes "config" ∷ []) birth.outside birth.outside e).1 in
      cc no

  not_branch : (names : Names) → is_first (codes "refs") names ≡ false → repo ++ names ≢ branch_place repo name
  not_branch names other e =
      let no : false ≡ true = sym other ∙ ap (is_first (codes "refs")) (split_once root root names branch_names birth.outside birth.outside e).1 in
      cc no

  third_first : (names : Names) → is_watched_name names ≡ true → is_head_name names ≡ false → is_first (codes "config") names ≡ false → is_first (codes "refs") names ≡ false
      → file_at third (repo ++ names) ≡ file_at first (repo ++ names)
  third_first names watched head config refs =
      third_other root names birth.outside head
      ∙ second_other (repo ++ names) (watched_at root names birth.outside watched) (not_settings names config) (not_branch names refs)

  third_same_objects : (i : List ℕ) → file_at third (object_place repo i) ≡ file_at first (object_place repo i)
  third_same_objects i = third_first (object_names (hex_of i)) (object_watched (hex_of i)) refl refl refl

  whole_now : IsWhole repo id third
  whole_now = whole_stays repo first third (held_in repo first third third_same_objects) id birth.whole

  is_id : IsId id
  is_id = whole_is_id repo id first birth.whole

  branch_now : file_at third (branch_place repo name) ≡ Some (id_text id)
  branch_now =
      third_other root branch_names birth.outside refl
      ∙ second_branch (branch_place repo name) (watched_at root branch_names birth.outside (branch_watched name birth.named)) (not_settings branch_names refl) refl

  pub head_now : head_of third repo ≡ Some (record { branch = Some name; id = id })
  head_now =
      ap (head_in (λ n. file_at third (branch_place repo n))) (file_at-insert_same second (head_place root) (ref_text name) (head_place root) refl)
      ∙ now_named (λ n. file_at third (branch_place repo n)) name id birth.named is_id branch_now

  branches_now : (n text : List ℕ) → is_branch n ≡ true → file_at third (branch_place repo n) ≡ Some text → (i : List ℕ) × (id_in text ≡ Some i) × IsWhole repo i third
  branches_now n text named e =
      let all = codes "refs" ∷ codes "heads" ∷ pieces n in
      let watched = watched_at root all birth.outside (branch_watched n named) in
      let before = third_other root all birth.outside refl in
      elim (cases_place (branch_place repo n) (branch_place repo name)) [
        | inl is ↦
            let texts : Some (id_text id) ≡ Some text = sym (second_branch (branch_place repo n) watched (not_settings all refl) is) ∙ sym before ∙ e in
            (id, ap id_in (sym (cc texts)) ∙ id_in-text id is_id, whole_now)
        | inr other ↦
            let none = before ∙ second_other (branch_place repo n) watched (not_settings all refl) other ∙ first_none all (branch_watched n named) refl in
            absurd (cc (sym none ∙ e))
      ]

  own_sound : IsSoundAt root third
  own_sound = record {
    objects = objects_as repo first third third_same_objects first_objects;
    heads = record { head = record { branch = Some name; id = id }; leads = head_now; whole = whole_now; branches = branches_now };
    settings = record {
      text = settings;
      stands = third_other root (codes "config" ∷ []) birth.outside refl ∙ second_settings (settings_place root) (watched_at root (codes "config" ∷ []) birth.outside settings_watched) refl;
      valid = birth.valid;
    };
    logs = no_logs root third (λ key. third_first (log_names key) (log_watched key) refl refl refl ∙ first_none (log_names key) (log_watched key) refl);
    tmp = λ names firm.
        let watched = tmp_watched root names birth.outside firm in
        third_first (codes "tmp" ∷ names) watched refl refl refl ∙ first_none (codes "tmp" ∷ names) watched refl;
    outside = birth.outside;
  }

  third_sound : Sound second → Sound third
  third_sound sound s is = elim (cases_place (head_place s) (head_place root)) [
    | inl e ↦
        let same : s ≡ root = append_cancel_right s root (dlrepo ∷ []) (append_cancel_right (repo_of s) repo head_names e) in
        subst (λ (r : Names). IsSoundAt r third) (sym same) own_sound
    | inr other ↦
        let there = ap is_some (sym (file_at-insert_other second (head_place root) (ref_text name) (head_place s) other)) ∙ is in
        let at = sound s there in
        let differ : s ≢ root = λ e. other (ap (λ (r : Names). head_place r) e) in
        grown s second third
        (λ names watched object. file_at-insert_other second (head_place root) (ref_text name) (repo_of s ++ names) (λ e. differ (split_once s root names head_names at.outside birth.outside e).0))
        (third_holds s at.outside) (objects_as (repo_of s) second third (third_objects s at.outside) at.objects) at
  ]

  all_keep : AllKeepSound (birth_rounds root objects work settings name id) g
  all_keep = (objects_keep root objects g birth.outside can, (second_keeps, (one_keeps (head_place root) (ref_text name) second third_sound third_holds third_contents, tt)))

pub born : (root : Names) (objects : List NewObject) (work : Round) (settings name id : List ℕ) (g : Ground) → IsBirth root objects work settings name id g → IsBorn root objects work settings name id g
born root objects work settings name id g birth = record { keep = all_keep root objects work settings name id g birth; head = head_now root objects work settings name id g birth }
