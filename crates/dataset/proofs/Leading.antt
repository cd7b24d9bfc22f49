-- A HEAD that is led elsewhere, and a branch that gets a commit, keep a ground sound.
use Rattle.std.proofs.Common.{◌≡◌, ◌≢◌, inl, inr, ℕ, Bool, true, false, ◌||◌, List, [], ◌∷◌, ◌++◌, Option, Some, None, refl, sym, ap, ◌∙◌, subst}
use Rattle.std.specs.Prelude.{codes, bytes_eq, is_some}
use Rattle.std.specs.FinMap.{insert}
use Rattle.places.specs.All.{Names, pieces, Ground, file_at}
use Rattle.places.proofs.Grounds.{cases_place, file_at-insert_same, file_at-insert_other}
use Rattle.git_objects.specs.All.{IsId, hex_of}
use Rattle.repository.specs.All.{Head, head_in, head_of, id_in, id_text, is_branch, repo_of}
use Rattle.repository.specs.All.{head_place, branch_place, object_names, object_place}
use Rattle.repository.specs.All.{settings_place}
use Rattle.annex_store.specs.All.{content_names, content_place, log_names, log_place}
use Rattle.dataset.specs.Watched.{IsRoot}
use Rattle.dataset.specs.Whole.{IsWhole}
use Rattle.dataset.specs.Sound.{IsDataset, HasSoundHeads, HasSoundLogs, IsSoundAt, Sound, HoldsAll, HoldsContents}
use Rattle.dataset.specs.Rounds.{KeepsSound}
use Rattle.dataset.specs.Leads.{lead_text, IsAtCommit, CanLead, IsLed, branch_round}
use Rattle.dataset.proofs.Splits.{head_names, split_once, no_head_at, branch_plain}
use Rattle.repository.proofs.HeadTexts.{id_in-text}
use Rattle.repository.proofs.Heading.{how_read}
use Rattle.dataset.proofs.Heading.{now_detached, now_named, now_on_branch, same_head}
use Rattle.dataset.proofs.Logs.{logs_as, stands_as}
use Rattle.dataset.proofs.Wholes.{whole_stays, whole_is_id}
use Rattle.dataset.proofs.Rows.{one_keeps}
use Rattle.dataset.proofs.Watching.{grown, held_in, objects_as}

-- HEAD, or below `refs`
abbrev is_lead_name : Names → Bool
is_lead_name [] = false
is_lead_name (n ∷ ns) = bytes_eq n (codes "HEAD") || bytes_eq n (codes "refs")

-- ---- one file of a repository, HEAD or below `refs`, is written

module _ (root leads : Names) (text : List ℕ) (g : Ground) (outside : IsRoot root) (named : is_lead_name leads ≡ true) where
  abbrev place : Names
  place = repo_of root ++ leads

  abbrev after : Ground
  after = insert g place text

  elsewhere : (q : Names) → q ≢ place → file_at after q ≡ file_at g q
  elsewhere q other = file_at-insert_other g place text q other

  not_there : (s names : Names) → IsRoot s → is_lead_name names ≡ false → repo_of s ++ names ≢ place
  not_there s names apart other e = cc (sym other ∙ ap is_lead_name (split_once s root names leads apart outside e).1 ∙ named)

  same_objects : (s : Names) → IsRoot s → (i : List ℕ) → file_at after (object_place (repo_of s) i) ≡ file_at g (object_place (repo_of s) i)
  same_objects s apart i = elsewhere (object_place (repo_of s) i) (not_there s (object_names (hex_of i)) apart refl)

  holds : HoldsAll g after
  holds s apart = held_in (repo_of s) g after (same_objects s apart)

  contents_stay : HoldsContents g after
  contents_stay s apart key is = stands_as (repo_of s) key g after (elsewhere (content_place (repo_of s) key) (not_there s (content_names key) apart refl))

  same_settings : file_at after (settings_place root) ≡ file_at g (settings_place root)
  same_settings = elsewhere (settings_place root) (not_there root (codes "config" ∷ []) outside refl)

  same_logs : HasSoundLogs root g → HasSoundLogs root after
  same_logs =
      logs_as root g after same_settings
      (λ key. elsewhere (log_place (repo_of root) key) (not_there root (log_names key) outside refl))
      (contents_stay root outside)

  -- a dataset with another head
  led_at : HasSoundHeads (repo_of root) after → IsSoundAt root g → IsSoundAt root after
  led_at heads at = record {
    objects = objects_as (repo_of root) g after (same_objects root outside) at.objects;
    heads = heads;
    settings = record {
      text = at.settings.text;
      stands = same_settings ∙ at.settings.stands;
      valid = at.settings.valid;
    };
    logs = same_logs at.logs;
    tmp = λ names firm. elsewhere (repo_of root ++ codes "tmp" ∷ names) (not_there root (codes "tmp" ∷ names) outside refl) ∙ at.tmp names firm;
    outside = outside;
  }

  other_at : (s : Names) → s ≢ root → IsSoundAt s g → IsSoundAt s after
  other_at s differ at =
      grown s g after
      (λ names watched apart. elsewhere (repo_of s ++ names) (λ e. differ (split_once s root names leads at.outside outside e).0))
      (holds s at.outside) (objects_as (repo_of s) g after (same_objects s at.outside) at.objects) at

  -- where each dataset was one, and the heads of this one are sound
  led_sound : ((s : Names) → IsDataset s after → IsDataset s g) → (IsSoundAt root g → HasSoundHeads (repo_of root) after) → Sound g → Sound after
  led_sound was heads sound s is =
      let at = sound s (was s is) in
      elim (cases_place s root) [
        | inl e ↦
            let own = subst (λ (r : Names). IsSoundAt r g) e at in
            subst (λ (r : Names). IsSoundAt r after) (sym e) (led_at (heads own) own)
        | inr differ ↦ other_at s differ at
      ]

-- ---- HEAD

module _ (root : Names) (head : Head) (g : Ground) (outside : IsRoot root) (can : CanLead root head g) where
  abbrev text : List ℕ
  text = lead_text head.branch head.id

  abbrev led : Ground
  led = insert g (head_place root) text

  is_id : IsId head.id
  is_id = whole_is_id (repo_of root) head.id g can.whole

  not_head : (name : List ℕ) → branch_place (repo_of root) name ≢ head_place root
  not_head name e = let names = (split_once root root (codes "refs" ∷ codes "heads" ∷ pieces name) head_names outside outside e).1 in cc names

  branch_same : (name : List ℕ) → file_at led (branch_place (repo_of root) name) ≡ file_at g (branch_place (repo_of root) name)
  branch_same name = file_at-insert_other g (head_place root) text (branch_place (repo_of root) name) (not_head name)

  abbrev files : List ℕ → Option (List ℕ)
  files name = file_at led (branch_place (repo_of root) name)

  head_now : (branch : Option (List ℕ)) → IsAtCommit root branch head.id g → head_in files (Some (lead_text branch head.id)) ≡ Some (record { branch = branch; id = head.id })
  head_now None there = now_detached files head.id is_id
  head_now (Some name) there = now_named files name head.id there.0 is_id (branch_same name ∙ there.1)

  leads_now : head_of led (repo_of root) ≡ Some head
  leads_now = ap (head_in files) (file_at-insert_same g (head_place root) text (head_place root) refl) ∙ head_now head.branch can.there

  whole_after : (id : List ℕ) → IsWhole (repo_of root) id g → IsWhole (repo_of root) id led
  whole_after id whole = whole_stays (repo_of root) g led (holds root head_names text g outside refl root outside) id whole

  heads_now : IsSoundAt root g → HasSoundHeads (repo_of root) led
  heads_now at = record {
    head = head;
    leads = leads_now;
    whole = whole_after head.id can.whole;
    branches = λ name found named e.
        let was = at.heads.branches name found named (sym (branch_same name) ∙ e) in
        (was.0, was.1, whole_after was.0 was.2);
  }

  was_dataset : (s : Names) → IsDataset s led → IsDataset s g
  was_dataset s is = elim (cases_place (head_place s) (head_place root)) [
    | inl e ↦ ap (λ (q : Names). is_some (file_at g q)) e ∙ can.dataset
    | inr other ↦ ap is_some (sym (file_at-insert_other g (head_place root) text (head_place s) other)) ∙ is
  ]

  pub is_led : IsLed root head g
  is_led = record {
    keep = one_keeps (head_place root) text g (led_sound root head_names text g outside refl was_dataset heads_now) (holds root head_names text g outside refl) (contents_stay root head_names text g outside refl);
    leads = leads_now;
  }

-- ---- a branch

module _ (root : Names) (name id : List ℕ) (g : Ground) (outside : IsRoot root) (named : is_branch name ≡ true) (whole : IsWhole (repo_of root) id g) where
  abbrev branch : Names
  branch = branch_place (repo_of root) name

  abbrev branch_names : Names
  branch_names = codes "refs" ∷ codes "heads" ∷ pieces name

  abbrev put : Ground
  put = insert g branch (id_text id)

  own_id : IsId id
  own_id = whole_is_id (repo_of root) id g whole

  no_head_there : head_place root ≢ branch
  no_head_there e = let names = (split_once root root head_names branch_names outside outside e).1 in cc names

  whole_put : (i : List ℕ) → IsWhole (repo_of root) i g → IsWhole (repo_of root) i put
  whole_put i before = whole_stays (repo_of root) g put (holds root branch_names (id_text id) g outside refl root outside) i before

  abbrev old_files : List ℕ → Option (List ℕ)
  old_files n = file_at g (branch_place (repo_of root) n)

  abbrev new_files : List ℕ → Option (List ℕ)
  new_files n = file_at put (branch_place (repo_of root) n)

  -- the head after it, which is whole
  record IsHeaded : Type 0 where
    head : Head
    leads : head_in new_files (file_at g (head_place root)) ≡ Some head
    whole_too : IsWhole (repo_of root) head.id put

  headed : (head : Head) → head_in old_files (file_at g (head_place root)) ≡ Some head → IsWhole (repo_of root) head.id g → IsHeaded
  headed head leads before = elim (how_read old_files (file_at g (head_place root)) head leads) [
    | inl is ↦ record { head = head; leads = same_head old_files new_files (file_at g (head_place root)) head leads (λ n named. absurd (cc (sym is.branch ∙ named))); whole_too = whole_put head.id before }
    | inr on ↦ elim (cases_place (branch_place (repo_of root) on.name) branch) [
      | inl here ↦ record {
        head = record { branch = Some on.name; id = id };
        leads = now_on_branch old_files new_files (file_at g (head_place root)) head on id (file_at-insert_same g branch (id_text id) (branch_place (repo_of root) on.name) here) own_id;
        whole_too = whole_put id whole;
      }
      | inr other ↦ record {
        head = head;
        leads = same_head old_files new_files (file_at g (head_place root)) head leads (λ n is_n.
            let same : on.name ≡ n = cc (sym on.branch ∙ is_n) in
            ap new_files (sym same) ∙ file_at-insert_other g branch (id_text id) (branch_place (repo_of root) on.name) other ∙ ap old_files same);
        whole_too = whole_put head.id before;
      }
    ]
  ]

  -- a head on this branch leads there
  pub branch_leads : (head : Head) → head_of g (repo_of root) ≡ Some head → head.branch ≡ Some name → head_of put (repo_of root) ≡ Some (record { branch = Some name; id = id })
  branch_leads head leads same = elim (how_read old_files (file_at g (head_place root)) head leads) [
    | inl is ↦ absurd (cc (sym is.branch ∙ same))
    | inr on ↦
        let own : on.name ≡ name = cc (sym on.branch ∙ same) in
        let stands = ap new_files own ∙ file_at-insert_same g branch (id_text id) branch refl in
        ap (head_in new_files) (file_at-insert_other g branch (id_text id) (head_place root) no_head_there)
        ∙ now_on_branch old_files new_files (file_at g (head_place root)) head on id stands own_id
        ∙ ap (λ (n : List ℕ). Some (record { branch = Some n; id = id })) own
  ]

  heads_put : IsSoundAt root g → HasSoundHeads (repo_of root) put
  heads_put at =
      let now = headed at.heads.head at.heads.leads at.heads.whole in
      record {
        head = now.head;
        leads = ap (head_in new_files) (file_at-insert_other g branch (id_text id) (head_place root) no_head_there) ∙ now.leads;
        whole = now.whole_too;
        branches = λ n found is_name e. elim (cases_place (branch_place (repo_of root) n) branch) [
          | inl is ↦
              let texts : Some (id_text id) ≡ Some found = sym (file_at-insert_same g branch (id_text id) (branch_place (repo_of root) n) is) ∙ e in
              (id, ap id_in (sym (cc texts)) ∙ id_in-text id own_id, whole_put id whole)
          | inr other ↦
              let was = at.heads.branches n found is_name (sym (file_at-insert_other g branch (id_text id) (branch_place (repo_of root) n) other) ∙ e) in
              (was.0, was.1, whole_put was.0 was.2)
        ];
      }

  was_there : (s : Names) → IsDataset s put → IsDataset s g
  was_there s is = elim (cases_place (head_place s) branch) [
    | inl e ↦ absurd (no_head_at s root branch_names outside (record { inner = branch_plain name named; other = refl }) e)
    | inr other ↦ ap is_some (sym (file_at-insert_other g branch (id_text id) (head_place s) other)) ∙ is
  ]

  pub branch_keeps : KeepsSound (branch_round root name id) g
  branch_keeps = one_keeps branch (id_text id) g (led_sound root branch_names (id_text id) g outside refl was_there heads_put) (holds root branch_names (id_text id) g outside refl) (contents_stay root branch_names (id_text id) g outside refl)
