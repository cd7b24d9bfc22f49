-- The contents that a save keeps under their keys.
use Rattle.std.specs.Prelude.{◌≡◌, ℕ, Bool, true, if◌then◌else◌, List, [], ◌∷◌, ◌++◌, Option, Some}
use Rattle.std.specs.Prelude.{None}
use Rattle.std.specs.List.{AllByRecursion, flat_map}
use Rattle.places.specs.All.{Names, Ground, joined, is_text, names_of}
use Rattle.faults.specs.declared.faults.Fault.TheVariants.{Dirty}
use Rattle.faults.specs.declared.faults.Trouble.{Trouble}
use Rattle.faults.specs.declared.faults.Trouble.TheVariants.{NoMemory, Refused}
use Rattle.annex_keys.specs.All.{PlainKey}
use Rattle.annex_store.specs.All.{Each, IsKeepAll, found_in}
use Rattle.annex_store.specs.declared.members.NewContent.{NewContent}
use Rattle.acts.specs.All.{Act}
use Rattle.dataset.specs.All.{HasUuid}
use Rattle.kept_files.specs.declared.kept.Kept.{Kept}
use Rattle.kept_files.specs.declared.kept.Kept.TheVariants.{Same, InGit, Pointer, Content}
use Rattle.repository.specs.All.{repo_of}
use Rattle.tree_status.specs.All.{KeepBy, old_key}
use Rattle.tree_status.specs.declared.found.WorkingFile.{WorkingFile}

-- The key of the content that is to be kept of a file that is kept so: that of a new content; or
-- that of the old leaf, where the repository lacks it.
abbrev pub key_for : Kept → Bool → Option PlainKey → Option PlainKey
key_for (Same is_content) lacks old = if lacks then old else None
key_for InGit lacks old = None
key_for (Pointer text) lacks old = None
key_for (Content text own) lacks old = Some own

-- The key of the content that is to be kept of a working file, if any.
abbrev pub content_key : KeepBy → WorkingFile → Option PlainKey
content_key by file = key_for file.kept file.lacks (old_key by file.path)

-- The content under a key, whose source is a working file.
abbrev pub new_content : Names → WorkingFile → PlainKey → NewContent
new_content root file key =
    record { key = key; path = file.path; source = root ++ names_of file.path }

-- The content of a working file that is to be kept, or none.
abbrev pub content_by : Names → WorkingFile → Option PlainKey → List NewContent
content_by root file None = []
content_by root file (Some key) = new_content root file key ∷ []

-- The contents that are to be kept of working files.
abbrev pub contents : Names → KeepBy → List WorkingFile → List NewContent
contents root by files = flat_map (λ file. content_by root file (content_key by file)) files

-- The path of a working file has a place below the root.
abbrev pub IsBelow : Names → WorkingFile → Type 0
IsBelow root file = is_text (joined root file.path) ≡ true

-- The same of each of some files.
abbrev pub AreBelow : Names → List WorkingFile → Type 0
AreBelow root files = AllByRecursion (IsBelow root) files

-- No content is made of a file: for want of memory, or its path has no place.
abbrev pub ContentFails : Names → WorkingFile → Trouble → Type 0
ContentFails root file NoMemory = Unit {0}
ContentFails root file (Refused (Dirty path)) = IsBelow root file → ⊥
ContentFails root file trouble = ⊥

-- No contents are made of files: for want of memory, or a path has no place.
abbrev pub ContentsFail : Names → List WorkingFile → Trouble → Type 0
ContentsFail root files NoMemory = Unit {0}
ContentsFail root files (Refused (Dirty path)) = AreBelow root files → ⊥
ContentsFail root files trouble = ⊥

-- Each of some contents is what its source has.
abbrev pub HaveSources : Ground → List NewContent → Type 0
HaveSources g list = Each (λ x. (bytes : List ℕ) × (found_in x g ≡ Some bytes)) list

-- An act that keeps the contents of working files: in the repository, which has a UUID, at a
-- moment.
pub record IsKeepingOf (root : Names) (moment : ℕ) (g : Ground) (by : KeepBy)
    (files : List WorkingFile) (keeps : Act (Unit {0})) : Type 0 where
  pub uuid : List ℕ
  pub own : HasUuid root uuid g
  pub keep : IsKeepAll (repo_of root) uuid (contents root by files) moment g keeps
