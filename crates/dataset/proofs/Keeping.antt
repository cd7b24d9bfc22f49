-- Contents that are put, and logs that are set, keep a ground sound.
use Rattle.std.proofs.Common.{◌≡◌, ◌≢◌, ◌⊎◌, inl, inr, ℕ, true, false, List, [], ◌∷◌, ◌++◌, Option, refl, sym, ap, ◌∙◌, subst}
use Rattle.std.specs.Prelude.{codes, is_some}
use Rattle.places.specs.All.{Names, Ground, file_at}
use Rattle.places.proofs.Grounds.{cases_place}
use Rattle.git_objects.specs.All.{hex_of}
use Rattle.annex_keys.specs.All.{IsKey, Matches, PlainKey}
use Rattle.location_log.specs.All.{IsPresent, PlainLine}
use Rattle.location_log.proofs.Logs.{one_reading}
use Rattle.file_store.specs.All.{Round, changed}
use Rattle.file_store.proofs.Rounds.{with_file_same, with_file_other}
use Rattle.repository.specs.All.{head_place, object_names, object_place, repo_of, settings_place}
use Rattle.annex_store.specs.All.{IsLogIn, Stands, content_names, content_place, log_names, log_place}
use Rattle.dataset.specs.Watched.{IsRoot, IsWatched}
use Rattle.dataset.specs.Sound.{HasSoundLogs, HasUuid, HoldsAll, HoldsContents, SameHeads, Sound}
use Rattle.dataset.specs.Rounds.{LiesWatched, IsIntact}
use Rattle.dataset.specs.Contents.{ContentsKeep, EachChange, IsContentPut, IsLogSet, LogsKeep}
use Rattle.dataset.proofs.Splits.{is_watched_name, head_is_watched, object_watched, settings_watched, split_once, watched_at}
use Rattle.dataset.proofs.KeyPlaces.{content_no_head, content_once, content_watched, is_annex_name, log_no_content, log_no_head, log_once, log_watched}
use Rattle.dataset.proofs.Logs.{logs_as, stands_as, uuid_before}
use Rattle.dataset.proofs.Watching.{SameCore, core_head, held_in, moved, objects_as}
use Rattle.dataset.proofs.Rows.{old_or_new, unwatched_apart}

-- a place below `annex` in the repository of a root, and no HEAD
record IsAnnexed (root q : Names) : Type 0 where
  names : Names
  place : q ≡ repo_of root ++ names
  annex : is_annex_name names ≡ true
  other : (s : Names) → head_place s ≢ q

-- at each watched place stands what stood there, or something of this kind
abbrev Seen : (Names → Option (List ℕ) → Type 0) → Ground → Ground → Type 0
Seen P g x = (q : Names) → IsWatched q → (file_at x q ≡ file_at g q) ⊎ P q (file_at x q)

-- ---- where nothing but such places changes

module _ (root : Names) (P : Names → Option (List ℕ) → Type 0) (g x : Ground) (outside : IsRoot root) (annexed : (q : Names) (v : Option (List ℕ)) → P q v → IsAnnexed root q) (seen : Seen P g x) where
  same_in : (s names : Names) → IsRoot s → is_watched_name names ≡ true → is_annex_name names ≡ false → file_at x (repo_of s ++ names) ≡ file_at g (repo_of s ++ names)
  same_in s names apart watched other = elim (seen (repo_of s ++ names) (watched_at s names apart watched)) [
    | inl same ↦ same
    | inr put ↦
        let is = annexed (repo_of s ++ names) (file_at x (repo_of s ++ names)) put in
        let no : false ≡ true = sym other ∙ ap is_annex_name (split_once s root names is.names apart outside is.place).1 ∙ is.annex in
        absurd (cc no)
  ]

  head_same : (s : Names) → file_at x (head_place s) ≡ file_at g (head_place s)
  head_same s = elim (seen (head_place s) (head_is_watched s)) [
    | inl same ↦ same
    | inr put ↦ absurd ((annexed (head_place s) (file_at x (head_place s)) put).other s refl)
  ]

  core : (s : Names) → IsRoot s → SameCore s x g
  core s apart names watched object annex = same_in s names apart watched annex

  settings_same : (s : Names) → IsRoot s → file_at x (settings_place s) ≡ file_at g (settings_place s)
  settings_same s apart = same_in s (codes "config" ∷ []) apart settings_watched refl

  objects_same : (s : Names) → IsRoot s → (id : List ℕ) → file_at x (object_place (repo_of s) id) ≡ file_at g (object_place (repo_of s) id)
  objects_same s apart id = same_in s (object_names (hex_of id)) apart (object_watched (hex_of id)) refl

  heads_same : SameHeads x g
  heads_same s apart = core_head s g x (core s apart)

  holds : HoldsAll g x
  holds s apart = held_in (repo_of s) g x (objects_same s apart)

  now_sound : ((s : Names) → IsRoot s → HasSoundLogs s g → HasSoundLogs s x) → Sound g → Sound x
  now_sound logs sound s is =
      let at = sound s (ap is_some (sym (head_same s)) ∙ is) in
      moved s g x (core s at.outside) (holds s at.outside) (objects_as (repo_of s) g x (objects_same s at.outside) at.objects) (logs s at.outside at.logs) at

  intact : ((s : Names) → IsRoot s → HasSoundLogs s g → HasSoundLogs s x) → HoldsContents g x → (b : Ground) → Sound g → IsIntact g b x
  intact logs contents b sound = record { sound = now_sound logs sound; heads = inl heads_same; held = holds; contents = contents }

-- ---- what stands after a round, and on its way

after : (P : Names → Option (List ℕ) → Type 0) (round : Round) (g : Ground) → EachChange P round → Seen P g (changed round g)
after P [] g each q watched = inl refl
after P (c ∷ round) g each q watched = elim (cases_place q c.0) [
  | inl is ↦ elim each.0 [
    | inl unwatched ↦ absurd (unwatched_apart q c.0 watched unwatched is)
    | inr put ↦
        let now = with_file_same c.0 c.1 (changed round g) q is in
        inr (subst (λ (z : Names). P z (file_at (changed (c ∷ round) g) q)) (sym is) (subst (P c.0) (sym now) put))
  ]
  | inr other ↦
      let same = with_file_other c.0 c.1 (changed round g) q other in
      elim (after P round g each.1 q watched) [
        | inl kept ↦ inl (same ∙ kept)
        | inr put ↦ inr (subst (P q) (sym same) put)
      ]
]

on_way : (P : Names → Option (List ℕ) → Type 0) (round : Round) (g x : Ground) → EachChange P round → LiesWatched g (changed round g) x → Seen P g x
on_way P round g x each lies q watched = elim (old_or_new g (changed round g) x lies q watched) [
  | inl same ↦ inl same
  | inr new ↦ elim (after P round g each q watched) [
    | inl kept ↦ inl (new ∙ kept)
    | inr put ↦ inr (subst (P q) (sym new) put)
  ]
]

-- ---- contents

content_annexed : (root q : Names) (v : Option (List ℕ)) → IsContentPut root q v → IsAnnexed root q
content_annexed root q v put = record {
  names = content_names put.key;
  place = put.place;
  annex = refl;
  other = λ s e. content_no_head s (repo_of root) put.key (e ∙ put.place);
}

module _ (root : Names) (g x : Ground) (outside : IsRoot root) (seen : Seen (IsContentPut root) g x) where
  log_same : (s : Names) → IsRoot s → (key : PlainKey) → file_at x (log_place (repo_of s) key) ≡ file_at g (log_place (repo_of s) key)
  log_same s apart key = elim (seen (log_place (repo_of s) key) (watched_at s (log_names key) apart (log_watched key))) [
    | inl same ↦ same
    | inr put ↦ absurd (log_no_content key put.key (split_once s root (log_names key) (content_names put.key) apart outside put.place).1)
  ]

  contents_stay : HoldsContents g x
  contents_stay s apart key is stood = elim (seen (content_place (repo_of s) key) (watched_at s (content_names key) apart (content_watched key))) [
    | inl same ↦ stands_as (repo_of s) key g x same stood
    | inr put ↦
        let one = content_once key put.key is put.stored (split_once s root (content_names key) (content_names put.key) apart outside put.place).1 in
        record { bytes = put.bytes; stands = put.file; matching = subst (λ (k : PlainKey). Matches k put.bytes) (sym one) put.matching }
  ]

  contents_logs : (s : Names) → IsRoot s → HasSoundLogs s g → HasSoundLogs s x
  contents_logs s apart = logs_as s g x (settings_same root (IsContentPut root) g x outside (content_annexed root) seen s apart) (log_same s apart) (contents_stay s apart)

pub contents_keep : ContentsKeep
contents_keep root round g outside puts = record {
  keep = λ sound x lies.
      let seen = on_way (IsContentPut root) round g x puts lies in
      intact root (IsContentPut root) g x outside (content_annexed root) seen (contents_logs root g x outside seen) (contents_stay root g x outside seen) (changed round g) sound;
  has = λ x lies.
      let seen = on_way (IsContentPut root) round g x puts lies in
      record { heads = heads_same root (IsContentPut root) g x outside (content_annexed root) seen; contents = contents_stay root g x outside seen };
}

-- ---- logs

log_annexed : (root : Names) (g : Ground) (q : Names) (v : Option (List ℕ)) → IsLogSet root g q v → IsAnnexed root q
log_annexed root g q v set = record {
  names = log_names set.key;
  place = set.place;
  annex = refl;
  other = λ s e. log_no_head s (repo_of root) set.key (e ∙ set.place);
}

module _ (root : Names) (g x : Ground) (outside : IsRoot root) (seen : Seen (IsLogSet root g) g x) where
  content_same : (s : Names) → IsRoot s → (key : PlainKey) → file_at x (content_place (repo_of s) key) ≡ file_at g (content_place (repo_of s) key)
  content_same s apart key = elim (seen (content_place (repo_of s) key) (watched_at s (content_names key) apart (content_watched key))) [
    | inl same ↦ same
    | inr set ↦ absurd (log_no_content set.key key (sym (split_once s root (content_names key) (log_names set.key) apart outside set.place).1))
  ]

  logs_stay : HoldsContents g x
  logs_stay s apart key is = stands_as (repo_of s) key g x (content_same s apart key)

  log_seen : (s : Names) → IsRoot s → (key : PlainKey) → (file_at x (log_place (repo_of s) key) ≡ file_at g (log_place (repo_of s) key)) ⊎ IsLogSet root g (log_place (repo_of s) key) (file_at x (log_place (repo_of s) key))
  log_seen s apart key = seen (log_place (repo_of s) key) (watched_at s (log_names key) apart (log_watched key))

  -- a log that was set says that the content is there only where it stands
  set_honest : (s : Names) → IsRoot s → (key : PlainKey) → IsKey key → (uuid : List ℕ) → HasUuid s uuid g → (lines : List PlainLine) → IsLogIn (file_at x (log_place (repo_of s) key)) lines → IsPresent lines uuid
      → IsLogSet root g (log_place (repo_of s) key) (file_at x (log_place (repo_of s) key)) → Stands (repo_of s) key g
  set_honest s apart key is uuid own lines log present set =
      let split = split_once s root (log_names key) (log_names set.key) apart outside set.place in
      let one = log_once key set.key is set.stored split.1 in
      let same : set.lines ≡ lines = one_reading.lines set.text set.lines lines set.formed (subst (λ (o : Option (List ℕ)). IsLogIn o lines) set.file log) in
      let stood = set.honest uuid (subst (λ (r : Names). HasUuid r uuid g) split.0 own) (subst (λ (ls : List PlainLine). IsPresent ls uuid) (sym same) present) in
      subst (λ (k : PlainKey). Stands (repo_of s) k g) (sym one) (subst (λ (r : Names). Stands (repo_of r) set.key g) (sym split.0) stood)

  set_logs : (s : Names) → IsRoot s → HasSoundLogs s g → HasSoundLogs s x
  set_logs s apart sound = record {
    formed = λ key is. elim (log_seen s apart key) [
      | inl same ↦
          let found = sound.formed key is in
          (found.0, subst (λ (o : Option (List ℕ)). IsLogIn o found.0) (sym same) found.1)
      | inr set ↦ (set.lines, subst (λ (o : Option (List ℕ)). IsLogIn o set.lines) (sym set.file) set.formed)
    ];
    honest = λ key uuid is own lines log present.
        let was = uuid_before s g x (settings_same root (IsLogSet root g) g x outside (log_annexed root g) seen s apart) uuid own in
        logs_stay s apart key is (elim (log_seen s apart key) [
          | inl same ↦ sound.honest key uuid is was lines (subst (λ (o : Option (List ℕ)). IsLogIn o lines) same log) present
          | inr set ↦ set_honest s apart key is uuid was lines log present set
        ]);
  }

pub logs_keep : LogsKeep
logs_keep root round g outside sets = record {
  keep = λ sound x lies.
      let seen = on_way (IsLogSet root g) round g x sets lies in
      intact root (IsLogSet root g) g x outside (log_annexed root g) seen (set_logs root g x outside seen) (logs_stay root g x outside seen) (changed round g) sound;
  has = λ x lies.
      let seen = on_way (IsLogSet root g) round g x sets lies in
      record { heads = heads_same root (IsLogSet root g) g x outside (log_annexed root g) seen; contents = logs_stay root g x outside seen };
}
