-- Soundness, heads and held objects look at watched places alone.
use Rattle.std.proofs.Common.{◌≡◌, inl, inr, ℕ, Bool, true, false, List, [], ◌∷◌, ◌++◌, None, Option, refl, sym, ap, ◌∙◌, subst}
use Rattle.std.specs.Prelude.{codes, bytes_eq, is_some, IsSome}
use Rattle.std.proofs.lemmas.Bool.{false≢true}
use Rattle.places.specs.All.{Names, pieces, Ground, file_at}
use Rattle.git_objects.specs.All.{hex_of, Object}
use Rattle.repository.specs.All.{head_in, head_of, is_branch, object_of, held_at, repo_of}
use Rattle.repository.specs.All.{head_place, branch_place, object_names, object_place}
use Rattle.repository.specs.All.{LessTmp}
use Rattle.repository.proofs.Unfinished.{tmp_firm}
use Rattle.annex_store.specs.All.{content_names, log_names}
use Rattle.dataset.specs.Watched.{IsRoot, SameWatched}
use Rattle.dataset.specs.Sound.{HasSoundLogs, HasSoundObjects, IsSoundAt, Sound, HoldsAllIn, HoldsAll, HoldsContents, HoldsContentsIn, SameHeads}
use Rattle.dataset.proofs.Splits.{head_names, is_watched_name, watched_at, watched_no_tmp, head_is_watched, head_watched, object_watched, branch_watched, settings_watched, tmp_watched}
use Rattle.dataset.proofs.Heading.{head_in-as}
use Rattle.dataset.proofs.KeyPlaces.{content_watched, is_annex_name, log_watched}
use Rattle.dataset.proofs.Logs.{logs_as, stands_as}
use Rattle.dataset.proofs.Wholes.{whole_stays, are_whole_stay}

-- below `objects`
abbrev pub is_object_name : Names → Bool
is_object_name [] = false
is_object_name (n ∷ ns) = bytes_eq n (codes "objects")

-- two grounds have the same at the watched places of a root, but for objects
abbrev pub SameRest : Names → Ground → Ground → Type 0
SameRest root b a =
    (names : Names) → is_watched_name names ≡ true → is_object_name names ≡ false → file_at b (repo_of root ++ names) ≡ file_at a (repo_of root ++ names)

-- the same, but for contents and logs too
abbrev pub SameCore : Names → Ground → Ground → Type 0
SameCore root b a =
    (names : Names) → is_watched_name names ≡ true → is_object_name names ≡ false → is_annex_name names ≡ false → file_at b (repo_of root ++ names) ≡ file_at a (repo_of root ++ names)

module _ (root : Names) (a b : Ground) (core : SameCore root b a) where
  branch_as : (name : List ℕ) → is_branch name ≡ true → file_at b (branch_place (repo_of root) name) ≡ file_at a (branch_place (repo_of root) name)
  branch_as name named = core (codes "refs" ∷ codes "heads" ∷ pieces name) (branch_watched name named) refl refl

  pub core_head : head_of b (repo_of root) ≡ head_of a (repo_of root)
  core_head =
      ap (head_in (λ name. file_at b (branch_place (repo_of root) name))) (core head_names head_watched refl refl)
      ∙ head_in-as (λ name. file_at a (branch_place (repo_of root) name)) (λ name. file_at b (branch_place (repo_of root) name)) branch_as (file_at a (head_place root))

  -- with sound objects and logs, a ground that has lost no object is as sound
  pub moved : HoldsAllIn (repo_of root) a b → HasSoundObjects (repo_of root) b → HasSoundLogs root b → IsSoundAt root a → IsSoundAt root b
  moved kept objects logs at = record {
    objects = objects;
    heads = record {
      head = at.heads.head;
      leads = core_head ∙ at.heads.leads;
      whole = whole_stays (repo_of root) a b kept at.heads.head.id at.heads.whole;
      branches = λ name text named e.
          let found = at.heads.branches name text named (sym (branch_as name named) ∙ e) in
          (found.0, found.1, whole_stays (repo_of root) a b kept found.0 found.2);
    };
    settings = record {
      text = at.settings.text;
      stands = core (codes "config" ∷ []) settings_watched refl refl ∙ at.settings.stands;
      valid = at.settings.valid;
    };
    logs = logs;
    tmp = λ names firm. core (codes "tmp" ∷ names) (tmp_watched root names at.outside firm) refl refl ∙ at.tmp names firm;
    outside = at.outside;
  }

module _ (root : Names) (a b : Ground) (rest : SameRest root b a) where
  to_core : SameCore root b a
  to_core names watched object annex = rest names watched object

  pub head_as : head_of b (repo_of root) ≡ head_of a (repo_of root)
  head_as = core_head root a b to_core

  -- no content changes either
  pub contents_too : HoldsContentsIn (repo_of root) a b
  contents_too key is = stands_as (repo_of root) key a b (rest (content_names key) (content_watched key) refl)

  logs_too : HasSoundLogs root a → HasSoundLogs root b
  logs_too = logs_as root a b (rest (codes "config" ∷ []) settings_watched refl) (λ key. rest (log_names key) (log_watched key) refl)
      contents_too

  -- with sound objects, a ground that has lost none is as sound
  pub grown : HoldsAllIn (repo_of root) a b → HasSoundObjects (repo_of root) b → IsSoundAt root a → IsSoundAt root b
  grown kept objects at = moved root a b to_core kept objects (logs_too at.logs) at

-- the same objects
module _ (repo : Names) (a b : Ground) (same : (id : List ℕ) → file_at b (object_place repo id) ≡ file_at a (object_place repo id)) where
  held_same : (id : List ℕ) → held_at b repo id ≡ held_at a repo id
  held_same id = ap (object_of id) (same id)

  pub held_in : HoldsAllIn repo a b
  held_in id o h = held_same id ∙ h

  pub objects_as : HasSoundObjects repo a → HasSoundObjects repo b
  objects_as sound = record {
    named = λ id is there. subst (λ (o : Option Object). IsSome o) (sym (held_same id)) (sound.named id is (ap is_some (sym (same id)) ∙ there));
    parents = λ id fields commit.
        are_whole_stay repo a b held_in fields.parents (sound.parents id fields (record { body = commit.body; held = sym (held_same id) ∙ commit.held; text = commit.text }));
  }

module _ (a b : Ground) (same : SameWatched b a) where
  same_in : (root : Names) → IsRoot root → (names : Names) → is_watched_name names ≡ true → file_at b (repo_of root ++ names) ≡ file_at a (repo_of root ++ names)
  same_in root outside names is = same (repo_of root ++ names) (watched_at root names outside is)

  same_objects : (root : Names) → IsRoot root → (id : List ℕ) → file_at b (object_place (repo_of root) id) ≡ file_at a (object_place (repo_of root) id)
  same_objects root outside id = same_in root outside (object_names (hex_of id)) (object_watched (hex_of id))

  pub same_heads : SameHeads b a
  same_heads root outside = head_as root a b (λ names is other. same_in root outside names is)

  pub same_held : HoldsAll a b
  same_held root outside = held_in (repo_of root) a b (same_objects root outside)

  pub same_contents : HoldsContents a b
  same_contents root outside = contents_too root a b (λ names is other. same_in root outside names is)

  pub as_sound : Sound a → Sound b
  as_sound sound root is =
      let at = sound root (ap is_some (sym (same (head_place root) (head_is_watched root))) ∙ is) in
      grown root a b (λ names watched other. same_in root at.outside names watched) (same_held root at.outside) (objects_as (repo_of root) a b (same_objects root at.outside) at.objects) at

-- ---- unfinished writes may go

pub less_same : (root : Names) (a b : Ground) → LessTmp (repo_of root) a b → SameWatched b a
less_same root a b less q watched = elim (less q) [
  | inl same ↦ same
  | inr gone ↦ absurd (false≢true (sym (watched_no_tmp q watched) ∙ tmp_firm root q gone.0))
]

pub empty_sound : (g : Ground) → ((q : Names) → file_at g q ≡ None) → Sound g
empty_sound g none root is = absurd (false≢true (sym (ap is_some (none (head_place root))) ∙ is))
