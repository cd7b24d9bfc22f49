-- Which grounds are sound.
use Rattle.std.specs.Prelude.{◌≡◌, ℕ, true, false, List, ◌∷◌, ◌++◌, codes, Some, None, IsSome, Ok}
use Rattle.places.specs.All.{Names, Ground, file_at, stands}
use Rattle.git_objects.specs.All.{Fields, IsId, Object}
use Rattle.config_text.specs.All.{PlainConfig, config_in}
use Rattle.annex_keys.specs.All.{IsKey, PlainKey}
use Rattle.location_log.specs.All.{PlainLine}
use Rattle.repository.specs.All.{Head, head_of, id_in, is_branch, held_at, repo_of, head_place}
use Rattle.repository.specs.All.{settings_place, object_place, branch_place, is_tmp}
use Rattle.object_store.specs.All.{IsCommitAt}
use Rattle.annex_store.specs.All.{IsHonest, IsLogIn, Stands, log_place}
use Rattle.dataset.specs.Watched.{IsRoot}
use Rattle.dataset.specs.Whole.{IsWhole, AreWhole}

-- A dataset's HEAD stands.
abbrev pub IsDataset : Names → Ground → Type 0
IsDataset root g = stands g (head_place root) ≡ true

-- A file at the place of an id is an object of that id, and the parents of each commit are whole.
pub record HasSoundObjects (repo : Names) (g : Ground) : Type 0 where
  pub named : (id : List ℕ) → IsId id → stands g (object_place repo id) ≡ true
      → IsSome (held_at g repo id)
  pub parents : (id : List ℕ) (fields : Fields) → IsCommitAt repo id g fields
      → AreWhole repo fields.parents g

-- HEAD is in form, and so is each branch; they lead to whole commits.
pub record HasSoundHeads (repo : Names) (g : Ground) : Type 0 where
  pub head : Head
  pub leads : head_of g repo ≡ Some head
  pub whole : IsWhole repo head.id g
  pub branches : (name text : List ℕ) → is_branch name ≡ true
      → file_at g (branch_place repo name) ≡ Some text
      → (id : List ℕ) × (id_in text ≡ Some id) × IsWhole repo id g

-- The text of a configuration.
abbrev pub IsConfiguration : List ℕ → Type 0
IsConfiguration text = (config : PlainConfig) × (config_in text ≡ Ok config)

-- The dataset's configuration stands, in form.
pub record HasSoundSettings (root : Names) (g : Ground) : Type 0 where
  pub text : List ℕ
  pub stands : file_at g (settings_place root) ≡ Some text
  pub valid : IsConfiguration text

-- The repository's own UUID, as its configuration says.
pub record HasUuid (root : Names) (uuid : List ℕ) (g : Ground) : Type 0 where
  pub text : List ℕ
  pub config : PlainConfig
  pub stands : file_at g (settings_place root) ≡ Some text
  pub read : config_in text ≡ Ok config
  pub own : config.uuid ≡ uuid

-- The log of a key is in form: no file stands at its place, or one that is a text of lines.
abbrev pub IsFormed : Names → PlainKey → Ground → Type 0
IsFormed root key g =
    (lines : List PlainLine) × IsLogIn (file_at g (log_place (repo_of root) key)) lines

-- The log of each key is in form, and honest: where it says that the repository itself has the
-- content, bytes that match the key stand at the content's place.
pub record HasSoundLogs (root : Names) (g : Ground) : Type 0 where
  pub formed : (key : PlainKey) → IsKey key → IsFormed root key g
  pub honest : (key : PlainKey) (uuid : List ℕ) → IsKey key → HasUuid root uuid g
      → IsHonest (repo_of root) uuid key g

-- At `tmp` and below it stand unfinished writes alone, each directly in it: no file stands at `tmp`
-- itself, and none deeper below it, but for unfinished writes of a repository that lies there.
abbrev pub HasSoundTmp : Names → Ground → Type 0
HasSoundTmp repo g =
    (names : Names) → is_tmp (repo ++ codes "tmp" ∷ names) ≡ false
    → file_at g (repo ++ codes "tmp" ∷ names) ≡ None

-- What a sound ground has of a dataset: its objects, its heads, its configuration, the logs of its
-- contents, room for unfinished writes; and it isn't in a repository.
pub record IsSoundAt (root : Names) (g : Ground) : Type 0 where
  pub objects : HasSoundObjects (repo_of root) g
  pub heads : HasSoundHeads (repo_of root) g
  pub settings : HasSoundSettings root g
  pub logs : HasSoundLogs root g
  pub tmp : HasSoundTmp (repo_of root) g
  pub outside : IsRoot root

-- Each dataset is sound.
abbrev pub Sound : Ground → Type 0
Sound g = (root : Names) → IsDataset root g → IsSoundAt root g

-- What one repository holds in the first ground it holds in the second.
abbrev pub HoldsAllIn : Names → Ground → Ground → Type 0
HoldsAllIn repo a b =
    (id : List ℕ) (o : Object) → held_at a repo id ≡ Some o → held_at b repo id ≡ Some o

-- Nothing that is held in the first ground is lost in the second.
abbrev pub HoldsAll : Ground → Ground → Type 0
HoldsAll a b = (root : Names) → IsRoot root → HoldsAllIn (repo_of root) a b

-- Where bytes that match a key stand at its content's place in one repository of the first ground,
-- they do so in the second.
abbrev pub HoldsContentsIn : Names → Ground → Ground → Type 0
HoldsContentsIn repo a b =
    (key : PlainKey) → IsKey key → Stands repo key a → Stands repo key b

-- No content that matches its key in the first ground is lost in the second.
abbrev pub HoldsContents : Ground → Ground → Type 0
HoldsContents a b = (root : Names) → IsRoot root → HoldsContentsIn (repo_of root) a b

-- Each dataset has the same head in both grounds.
abbrev pub SameHeads : Ground → Ground → Type 0
SameHeads a b =
    (root : Names) → IsRoot root → head_of a (repo_of root) ≡ head_of b (repo_of root)
