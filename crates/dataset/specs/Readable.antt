-- What a sound dataset has is read, but for what is past a limit.
use Rattle.std.specs.Prelude.{◌≡◌, ℕ, true, List, Option, None, Some}
use Rattle.places.specs.All.{Ground, Names, stands}
use Rattle.faults.specs.declared.faults.Fault.{Fault}
use Rattle.faults.specs.declared.faults.Fault.TheVariants.{TooLarge}
use Rattle.git_objects.specs.All.{IsId}
use Rattle.annex_keys.specs.All.{IsKey, PlainKey}
use Rattle.repository.specs.All.{branch_place, is_branch, repo_of}
use Rattle.object_store.specs.All.{IsCommitFault, get_fault}
use Rattle.ref_store.specs.All.{branch_fault, tip_fault}
use Rattle.snapshot.specs.All.{IsFlat, IsFlattenFault, pointers_fault}
use Rattle.snapshot.specs.declared.entries.Entry.{Entry}
use Rattle.annex_store.specs.All.{IsLogFault}
use Rattle.dataset.specs.Whole.{IsWhole}
use Rattle.dataset.specs.Sound.{IsSoundAt}

-- A limit is passed: a place, a file, an object or a tree is too large.
abbrev pub IsLimit : Fault → Type 0
IsLimit (TooLarge path size) = Unit {0}
IsLimit fault = ⊥

-- A refusal, if any, is that a limit is passed.
abbrev pub IsLimitAtMost : Option Fault → Type 0
IsLimitAtMost None = Unit {0}
IsLimitAtMost (Some fault) = IsLimit fault

-- For nothing but a limit is the tip refused, or the file of a branch that stands, or an object
-- with any id, or a whole commit, or one with all its trees, or the log of a key.
pub record IsReadable (root : Names) (g : Ground) : Type 0 where
  pub tip : IsLimitAtMost (tip_fault (repo_of root) g)
  pub branches : (name : List ℕ) → is_branch name ≡ true
      → stands g (branch_place (repo_of root) name) ≡ true
      → IsLimitAtMost (branch_fault (repo_of root) name g)
  pub objects : (id : List ℕ) → IsId id → IsLimitAtMost (get_fault (repo_of root) id g)
  pub commits : (id : List ℕ) (fault : Fault) → IsWhole (repo_of root) id g
      → IsCommitFault (repo_of root) id g fault → IsLimit fault
  pub trees : (id : List ℕ) (fault : Fault) → IsWhole (repo_of root) id g
      → IsFlattenFault (repo_of root) id g fault → IsLimit fault
  pub logs : (key : PlainKey) (fault : Fault) → IsKey key → IsLogFault (repo_of root) key g fault
      → IsLimit fault

-- A sound dataset is so: no object, tree, commit, HEAD, branch or log in it is missing, damaged or
-- out of form.
abbrev pub SoundIsReadable : Type 0
SoundIsReadable = (root : Names) (g : Ground) → IsSoundAt root g → IsReadable root g

-- The pointers in the snapshot of a whole commit are found: no blob of a file is missing or
-- damaged, and the repository's place isn't too long where the snapshot is read.
abbrev pub WholeTellsPointers : Type 0
WholeTellsPointers =
    (repo : Names) (g : Ground) (commit : List ℕ) (list : List Entry)
    → IsWhole repo commit g → IsFlat repo commit g list → pointers_fault repo list g ≡ None
