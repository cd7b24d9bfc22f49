-- How far a reading of trees goes, and what may come of it, whatever the files tell.
use Rattle.std.specs.Prelude.{◌≡◌, ◌⊎◌, ℕ, ◌+◌, ◌<◌, ◌≤◌, List, [], ◌++◌, codes, length}
use Rattle.places.specs.All.{Names, longest}
use Rattle.faults.specs.declared.faults.Fault.{Fault}
use Rattle.faults.specs.declared.faults.Fault.TheVariants.{TooLarge}
use Rattle.git_objects.specs.declared.entries.TreeEntry.{TreeEntry}
use Rattle.object_store.specs.All.{MayReadTree, MayReadCommit}
use Rattle.repository.specs.All.{item_limit}
use Rattle.snapshot.specs.Dirs.{Dir, entries_of, root_id, inside, listed, EachSub, IsTreeOf}
use Rattle.snapshot.specs.Flattens.{told_path}
use Rattle.snapshot.specs.Order.{IsEntryName}
use Rattle.snapshot.specs.declared.flattening.Found.{Found}

-- What the paths in a directory begin with: nothing for the root, and else each name that leads to
-- it, with a slash behind it.
pub data IsFront : List ℕ → Type 0 where
  at_root : IsFront []
  in_dir : (path name : List ℕ) → IsFront path → IsEntryName name → IsFront (inside path name)

-- A path in a directory is too long, though the directory's isn't: it is told by the directory's
-- path, with its length.
pub record IsLongPath (told : List ℕ) (size : ℕ) : Type 0 where
  pub path : List ℕ
  pub name : List ℕ
  pub front : IsFront path
  pub named : IsEntryName name
  pub fits : length path ≤ longest + 1
  pub is : told ≡ told_path path
  pub counted : size ≡ length (path ++ name)
  pub over : longest < size

-- A path is too long, or the leaves and directories are too many.
abbrev pub IsOverLimit : Fault → Type 0
IsOverLimit (TooLarge path size) =
    IsLongPath path size ⊎ ((path ≡ codes ".") × (size ≡ item_limit + 1))
IsOverLimit fault = ⊥

-- The faults with which a tree and those in it may be refused, whatever the files tell.
abbrev pub MayWalk : Names → Fault → Type 0
MayWalk repo fault = ((id : List ℕ) × MayReadTree repo id fault) ⊎ IsOverLimit fault

-- The same of a commit and its tree.
abbrev pub MayFlatten : Names → List ℕ → Fault → Type 0
MayFlatten repo commit fault = MayReadCommit repo commit fault ⊎ MayWalk repo fault

-- The paths of some entries of a tree were found, each directory among them with a tree of its own;
-- and no more leaves and directories than may be.
pub record Spells (path : List ℕ) (entries : List TreeEntry) (old new : Found) : Type 0 where
  pub dir : Dir
  pub spelled : entries_of dir ≡ entries
  pub subs : EachSub IsTreeOf dir
  pub more : new.entries.items ≡ old.entries.items ++ listed path dir
  pub few : new.count ≤ item_limit

-- The paths of a directory were found, whose tree has this id.
pub record SpellsTree (path id : List ℕ) (old new : Found) : Type 0 where
  pub dir : Dir
  pub top : IsTreeOf dir
  pub root : root_id dir ≡ id
  pub subs : EachSub IsTreeOf dir
  pub more : new.entries.items ≡ old.entries.items ++ listed path dir
  pub few : new.count ≤ item_limit
