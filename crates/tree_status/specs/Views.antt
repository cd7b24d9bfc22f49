-- What a save looks at, as the program has it.
use Rattle.std.specs.Prelude.{◌≡◌, ◌⊎◌, ℕ, Bool, IsTrue, List, None, Some}
use Rattle.places.specs.All.{Names, Ground}
use Rattle.faults.specs.declared.faults.Fault.{Fault}
use Rattle.faults.specs.declared.faults.Fault.TheVariants.{Damaged, Missing, BadTree, BadCommit}
use Rattle.faults.specs.declared.faults.Fault.TheVariants.{TooLarge, UnsupportedMode, OddKind}
use Rattle.faults.specs.declared.faults.Fault.TheVariants.{Dirty}
use Rattle.repository.specs.All.{repo_of, object_place}
use Rattle.ref_store.specs.All.{IsTipPlace, MayReadTip}
use Rattle.snapshot.specs.All.{ArePointed, IsFlat, IsFlattenFault, MayFlatten, MayPoint}
use Rattle.snapshot.specs.declared.entries.Entry.{Entry}
use Rattle.tree_status.specs.Keeping.{KeepBy, limit_by}
use Rattle.tree_status.specs.KeepingFiles.{AreKeptFiles}
use Rattle.tree_status.specs.Walks.{HasPlace, IsBeyond, MayWalk}
use Rattle.tree_status.specs.Working.{walk_fault, working}
use Rattle.tree_status.specs.Looks.{IsRead, pin_fault, view_fault}
use Rattle.tree_status.specs.declared.found.WorkingFile.{WorkingFile}
use Rattle.tree_status.specs.declared.viewing.View.{View}

-- By what working files are kept, where HEAD's commit has this id.
pub record IsKeeping (repo : Names) (g : Ground) (commit : List ℕ) (to_git : Bool) (by : KeepBy)
    : Type 0 where
  pub flat : IsFlat repo commit g by.old
  pub plain : pin_fault by.old ≡ None
  pub pointed : ArePointed repo by.old g by.pointers
  pub asks : by.to_git ≡ to_git

-- Why that isn't read: the commit and its trees, a pin, or a blob that may be a pointer.
abbrev pub IsNoKeeping : Names → Ground → List ℕ → Fault → Type 0
IsNoKeeping repo g commit fault =
    IsFlattenFault repo commit g fault
    ⊎ ((old : List Entry) × IsFlat repo commit g old × (view_fault repo g old ≡ Some fault))

-- The faults of reading it, whatever the files tell.
abbrev pub MayReadKeeping : Names → List ℕ → Fault → Type 0
MayReadKeeping repo commit (UnsupportedMode path) = Unit {0}
MayReadKeeping repo commit fault =
    MayFlatten repo commit fault ⊎ ((list : List Entry) × MayPoint repo list fault)

-- The working files as they are kept, where the walk isn't refused.
abbrev pub AreFiles : Names → Ground → KeepBy → List WorkingFile → Type 0
AreFiles root g by files =
    (walk_fault (limit_by by) root g ≡ None) × AreKeptFiles root g by (working root g) files

-- The faults of reading the working files, whatever the files tell.
abbrev pub MayReadFiles : Bool → Names → Fault → Type 0
MayReadFiles tells root (Dirty path) = IsTrue tells → ⊥
MayReadFiles tells root fault = MayWalk tells root fault

-- What was looked at: HEAD's commit, its snapshot, and the working files as they are kept by it.
abbrev pub IsView : Names → Bool → Ground → View → Type 0
IsView root to_git g view = IsRead root to_git g view.parent.0 view.by view.files.items

-- What is past a limit where a dataset is looked at: the place of HEAD or of a branch; an object, a
-- path or their number; a blob that may be a pointer; a working file, its path or their number.
abbrev pub IsOverToView : Names → List ℕ → ℕ → Type 0
IsOverToView root path size =
    MayReadTip (repo_of root) (TooLarge path size)
    ⊎ (((commit : List ℕ) × MayFlatten (repo_of root) commit (TooLarge path size))
    ⊎ (((list : List Entry) × MayPoint (repo_of root) list (TooLarge path size))
    ⊎ IsBeyond root path size))

-- The faults of looking, whatever the files tell.
abbrev pub MayView : Bool → Names → Fault → Type 0
MayView tells root (Damaged place) =
    IsTipPlace (repo_of root) place
    ⊎ ((id : List ℕ) × (place ≡ object_place (repo_of root) id))
MayView tells root (Missing id) = Unit {0}
MayView tells root (BadTree id at) = Unit {0}
MayView tells root (BadCommit id at) = Unit {0}
MayView tells root (TooLarge path size) = IsOverToView root path size
MayView tells root (UnsupportedMode path) = Unit {0}
MayView tells root (OddKind path) = HasPlace root path
MayView tells root (Dirty path) = IsTrue tells → ⊥
MayView tells root fault = ⊥
