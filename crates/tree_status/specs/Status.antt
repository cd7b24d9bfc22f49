-- The status of a dataset: what has changed in its working files since HEAD's commit.
use Rattle.std.specs.Prelude.{◌≡◌, ◌↔◌, ℕ, List, [], ◌∷◌, ◌++◌, codes, false, Result, Ok, Err}
use Rattle.std.specs.List.{flat_map}
use Rattle.places.specs.All.{Names, Ground}
use Rattle.faults.specs.declared.faults.Fault.{Fault}
use Rattle.faults.specs.declared.faults.Fault.TheVariants.{OddKind, TooLarge, UnsupportedMode}
use Rattle.snapshot.specs.declared.entries.Entry.{Entry}
use Rattle.dataset.specs.All.{IsDataset, Sound}
use Rattle.tree_status.specs.Changes.{AreOrdered, changes, is_changed}
use Rattle.tree_status.specs.Keeping.{KeepBy}
use Rattle.tree_status.specs.Looks.{IsRead, IsUnread}
use Rattle.tree_status.specs.declared.found.WorkingFile.{WorkingFile}
use Rattle.tree_status.specs.declared.states.Change.{Change}
use Rattle.tree_status.specs.declared.states.State.{State}
use Rattle.tree_status.specs.declared.states.State.TheVariants.{Untracked, Modified, Deleted}

-- The name of a state, right in nine places.
abbrev pub state_text : State → List ℕ
state_text Untracked = codes "untracked"
state_text Modified = codes " modified"
state_text Deleted = codes "  deleted"

-- The line of a change.
abbrev pub status_line : Change → List ℕ
status_line change =
    state_text change.state ++ codes ": " ++ change.path ++ codes " (file)\n"

-- What is said where nothing has changed.
unfoldable pub clean_text : List ℕ
clean_text = codes "nothing to save, working tree clean\n"

-- The lines of some changes; where there are none, that there are none.
abbrev pub status_text : List Change → List ℕ
status_text [] = clean_text
status_text (change ∷ more) = flat_map status_line (change ∷ more)

-- The status of a dataset: the lines of what has changed between HEAD's commit and its working
-- files, in byte order of the paths.
pub record IsStatus (root : Names) (g : Ground) (text : List ℕ) : Type 0 where
  pub parent : List ℕ
  pub by : KeepBy
  pub files : List WorkingFile
  pub read : IsRead root false g parent by files
  pub is : text ≡ status_text (changes by.old files)

-- How a status ends: with its text, or refused as what it looks at is.
abbrev pub StatusEnds : Names → Ground → Result (List ℕ) Fault → Type 0
StatusEnds root g (Ok text) = IsStatus root g text
StatusEnds root g (Err fault) = IsUnread root false g fault

-- What any status is, whatever the files tell: lines of changes, with ascending paths.
pub record IsStatusText (text : List ℕ) : Type 0 where
  pub changes : List Change
  pub ordered : AreOrdered changes
  pub is : text ≡ status_text changes

-- A status ends in one way, by the ground.
abbrev pub StatusIsOne : Type 0
StatusIsOne = (root : Names) (g : Ground) (one two : Result (List ℕ) Fault)
    → StatusEnds root g one → StatusEnds root g two → one ≡ two

-- The faults for which the status of a sound dataset may be refused: a limit is passed; a nested
-- dataset is in the commit, or among the working files.
abbrev pub IsSoundNoStatus : Fault → Type 0
IsSoundNoStatus (TooLarge path size) = Unit {0}
IsSoundNoStatus (UnsupportedMode path) = Unit {0}
IsSoundNoStatus (OddKind path) = Unit {0}
IsSoundNoStatus fault = ⊥

-- The status of a sound dataset is refused for nothing that the program itself has left there.
abbrev pub StatusIsComplete : Type 0
StatusIsComplete = (root : Names) (g : Ground) (fault : Fault) → Sound g → IsDataset root g
    → IsUnread root false g fault → IsSoundNoStatus fault

-- Nothing is among the changes exactly where nothing has changed.
abbrev pub CleanIsUnchanged : Type 0
CleanIsUnchanged = (old : List Entry) (files : List WorkingFile)
    → (changes old files ≡ []) ↔ (is_changed old files ≡ false)
