-- What the log of a sound dataset may be refused for.
use Rattle.std.specs.Prelude.{◌≡◌, ◌⊎◌, ℕ, true, false, List, codes}
use Rattle.places.specs.All.{Names, Ground}
use Rattle.faults.specs.declared.faults.Fault.{Fault}
use Rattle.faults.specs.declared.faults.Fault.TheVariants.{Ambiguous, BadCommit, NoSuchRevision}
use Rattle.faults.specs.declared.faults.Fault.TheVariants.{TooLarge, TooLong}
use Rattle.git_objects.specs.All.{lowered}
use Rattle.repository.specs.All.{repo_of}
use Rattle.object_store.specs.All.{begins_with}
use Rattle.ref_store.specs.All.{IsRevision, has_branch, is_hex}
use Rattle.dataset.specs.All.{IsDataset, IsLimit, Sound}
use Rattle.history.specs.Logs.{IsNoLog}

-- The base of a revision word is an id's 40 digits, or the first 4 to 39 of them, in either case.
pub record IsByDigits (word id : List ℕ) : Type 0 where
  pub base : List ℕ
  pub count : ℕ
  pub revision : IsRevision word base count
  pub hex : is_hex 4 40 base ≡ true
  pub begins : begins_with (lowered base) id ≡ true

-- The faults for which the log of a revision word may be refused in a sound dataset: the word,
-- which isn't HEAD alone, leads to no commit; its digits begin the ids of two commits; more commits
-- are asked for than a walk may pass; a limit of sizes is passed; or its digits give an object that
-- is called a commit and has no commit's form, which the program never makes.
abbrev pub IsSoundNoLog : List ℕ → Fault → Type 0
IsSoundNoLog word (NoSuchRevision other) = word ≡ codes "HEAD" → ⊥
IsSoundNoLog word (Ambiguous other first second) = IsByDigits word first × IsByDigits word second
IsSoundNoLog word (TooLong commit) = Unit {0}
IsSoundNoLog word (TooLarge path size) = Unit {0}
IsSoundNoLog word (BadCommit id at) = IsByDigits word id
IsSoundNoLog word fault = ⊥

-- A log of a sound dataset is refused for nothing that the program itself has left there: that of
-- HEAD for a limit alone, and no commit on the way is missing, damaged or out of form, but for one
-- that the word itself gives by its digits.
abbrev pub LogIsComplete : Type 0
LogIsComplete =
    (root : Names) (word : List ℕ) (g : Ground) (fault : Fault) → Sound g → IsDataset root g
    → IsNoLog (repo_of root) word g fault → IsSoundNoLog word fault

-- A word that names what stands: HEAD, or a branch; 40 hexadecimal digits are an id, also where a
-- branch has that name.
abbrev pub IsStandingName : Names → List ℕ → Ground → Type 0
IsStandingName repo word g =
    (word ≡ codes "HEAD") ⊎ ((is_hex 40 40 word ≡ false) × (has_branch repo word g ≡ true))

-- A limit of logs is passed: that of sizes, or that of the commits of one log.
abbrev pub IsLogLimit : Fault → Type 0
IsLogLimit (TooLong commit) = Unit {0}
IsLogLimit fault = IsLimit fault

-- In a sound dataset the log of a name that stands is refused for a limit alone: never as that of a
-- word that leads to no commit or to several, nor for a commit that is missing, damaged or out of
-- form.
abbrev pub LogOfNameIsComplete : Type 0
LogOfNameIsComplete =
    (root : Names) (word : List ℕ) (g : Ground) (fault : Fault) → Sound g → IsDataset root g
    → IsStandingName (repo_of root) word g → IsNoLog (repo_of root) word g fault → IsLogLimit fault
