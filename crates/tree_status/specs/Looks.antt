-- What a look at a dataset reads, in its order, and why it is refused: the repository, HEAD and its
-- branch, the commit and its trees, the pointers among its files, and the working files.
use Rattle.std.specs.Prelude.{◌≡◌, ◌⊎◌, ℕ, Bool, List, [], ◌∷◌, Option, Some, None, Result, Ok, Err}
use Rattle.places.specs.All.{Names, Ground}
use Rattle.faults.specs.declared.faults.Fault.{Fault}
use Rattle.faults.specs.declared.faults.Fault.TheVariants.{UnsupportedMode}
use Rattle.faults.specs.declared.faults.Trouble.{Trouble}
use Rattle.faults.specs.declared.faults.Trouble.TheVariants.{Refused, Device, NoMemory}
use Rattle.file_store.specs.All.{or_next}
use Rattle.repository.specs.All.{repo_of, repo_head}
use Rattle.ref_store.specs.All.{IsTipAt, long_place, tip_fault}
use Rattle.snapshot.specs.All.{ArePointed, IsFlat, IsFlattenFault, pointers_fault}
use Rattle.snapshot.specs.declared.entries.Entry.{Entry}
use Rattle.snapshot.specs.declared.entries.Leaf.{Leaf}
use Rattle.snapshot.specs.declared.entries.Leaf.TheVariants.{Git, Link, Pin}
use Rattle.snapshot.specs.declared.pointing.Pointer.{Pointer}
use Rattle.tree_status.specs.Keeping.{KeepBy, limit_by}
use Rattle.tree_status.specs.KeepingFiles.{AreKeptFiles}
use Rattle.tree_status.specs.Working.{walk_fault, working}
use Rattle.tree_status.specs.declared.found.WorkingFile.{WorkingFile}

-- The repository's place, or the refusal of HEAD's place in it, where that is longer than places
-- are.
abbrev pub IsRepo : Names → Result Names Trouble → Type 0
IsRepo root (Ok repo) = repo ≡ repo_of root
IsRepo root (Err (Refused fault)) = long_place (repo_head (repo_of root)) ≡ Some fault
IsRepo root (Err Device) = ⊥
IsRepo root (Err NoMemory) = Unit {0}

-- The refusal of the first pin in a snapshot.
abbrev pub pin_fault : List Entry → Option Fault
pin_fault [] = None
pin_fault (entry ∷ list) = or_next (pin_at entry.path entry.leaf) (pin_fault list)
  where
    pin_at : List ℕ → Leaf → Option Fault
    pin_at path (Git id exec) = None
    pin_at path (Link id) = None
    pin_at path (Pin id) = Some (UnsupportedMode path)

-- HEAD's commit has this snapshot, with no pin and with these pointers; the walk over the working
-- files isn't refused; and by these the working files are kept so.
pub record IsRead (root : Names) (to_git : Bool) (g : Ground) (parent : List ℕ) (by : KeepBy)
    (files : List WorkingFile) : Type 0 where
  pub tip : IsTipAt (repo_of root) g (record { 0 = parent })
  pub flat : IsFlat (repo_of root) parent g by.old
  pub plain : pin_fault by.old ≡ None
  pub pointed : ArePointed (repo_of root) by.old g by.pointers
  pub asks : by.to_git ≡ to_git
  pub walk : walk_fault (limit_by by) root g ≡ None
  pub kept : AreKeptFiles root g by (working root g) files

-- Why a snapshot that was read leads no further: a pin in it, or a blob that may be a pointer.
abbrev pub view_fault : Names → Ground → List Entry → Option Fault
view_fault repo g old = or_next (pin_fault old) (pointers_fault repo old g)

-- A snapshot has no pin, and its pointers are found; the walk over the working files is refused.
pub record IsWalkRefused (root : Names) (to_git : Bool) (g : Ground) (old : List Entry)
    (fault : Fault) : Type 0 where
  pub pointers : List Pointer
  pub plain : pin_fault old ≡ None
  pub pointed : ArePointed (repo_of root) old g pointers
  pub walk : walk_fault
      (limit_by (record { old = old; pointers = pointers; to_git = to_git })) root g ≡ Some fault

-- Why a dataset isn't read: HEAD and its branch; the commit and its trees; a pin or a blob in its
-- snapshot; the working files.
abbrev pub IsUnread : Names → Bool → Ground → Fault → Type 0
IsUnread root to_git g fault =
    (tip_fault (repo_of root) g ≡ Some fault)
    ⊎ ((parent : List ℕ) × IsTipAt (repo_of root) g (record { 0 = parent })
    × (IsFlattenFault (repo_of root) parent g fault
    ⊎ ((old : List Entry) × IsFlat (repo_of root) parent g old
    × ((view_fault (repo_of root) g old ≡ Some fault) ⊎ IsWalkRefused root to_git g old fault))))
