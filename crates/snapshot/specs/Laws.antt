-- What a snapshot, its trees and the objects that are held have to do with one another.
use Rattle.std.specs.Prelude.{◌≡◌, ◌⊎◌, ◌↔◌, ◌≤◌, ◌+◌, ℕ, List, [], ◌∷◌, length, Some, None}
use Rattle.places.specs.All.{Names, text_of, longest, Ground}
use Rattle.annex_keys.specs.All.{PlainKey}
use Rattle.faults.specs.declared.faults.Fault.{Fault}
use Rattle.git_objects.specs.All.{Fields, oid}
use Rattle.git_objects.specs.declared.entries.TreeEntry.{TreeEntry}
use Rattle.repository.specs.All.{IsHeld, object_limit, object_body_limit, item_limit}
use Rattle.object_store.specs.All.{IsTreeAt, IsCommitAt}
use Rattle.object_store.specs.declared.objects.NewObject.{NewObject}
use Rattle.snapshot.specs.Leaves.{leaf_entry, dir_entry}
use Rattle.snapshot.specs.Dirs.{Dir, root_id, tree_objects, paths_of, leaf_in, IsDir, IsDense}
use Rattle.snapshot.specs.Stands.{Stands}
use Rattle.snapshot.specs.Order.{Has, IsPathList, IsSorted, LacksPath}
use Rattle.snapshot.specs.Flattens.{IsFlat, IsFlattenFault}
use Rattle.snapshot.specs.Pointers.{ArePointed, ArePointers, IsAnnexed, key_at, pointers_fault}
use Rattle.snapshot.specs.declared.entries.Leaf.{Leaf}
use Rattle.snapshot.specs.declared.entries.Entry.{Entry}
use Rattle.snapshot.specs.declared.pointing.Pointer.{Pointer}

-- Each of the objects is held.
abbrev pub AreHeld : Names → Ground → List NewObject → Type 0
AreHeld repo g [] = Unit {0}
AreHeld repo g (o ∷ os) = IsHeld g repo (oid o.kind o.body) o.kind o.body × AreHeld repo g os

-- The trees of a list of paths: those of the one directory that has these paths and no empty
-- directory.
pub record IsBuilt (list : List Entry) (root : List ℕ) (trees : List NewObject) : Type 0 where
  pub dir : Dir
  pub valid : IsDir dir
  pub dense : IsDense dir
  pub same : list ≡ paths_of dir
  pub top : root ≡ root_id dir
  pub all : trees ≡ tree_objects dir

-- None of the objects is too large to be read.
abbrev pub AreSmall : List NewObject → Type 0
AreSmall [] = Unit {0}
AreSmall (o ∷ os) = (length o.body ≤ object_body_limit) × AreSmall os

-- None of the paths is too long.
abbrev pub ArePathsShort : List Entry → Type 0
ArePathsShort [] = Unit {0}
ArePathsShort (e ∷ es) = (length e.path ≤ longest) × ArePathsShort es

-- A commit of a built tree is held with all its trees, and nothing is past a limit.
pub record IsCommitted (repo : Names) (g : Ground) (list : List Entry) (commit : List ℕ)
    : Type 0 where
  pub fields : Fields
  pub trees : List NewObject
  pub built : IsBuilt list fields.tree.0 trees
  pub held : IsCommitAt repo commit g fields
  pub each : AreHeld repo g trees
  pub fits : length (text_of repo) ≤ object_limit
  pub top : length held.body ≤ object_body_limit
  pub small : AreSmall trees
  pub short : ArePathsShort list
  pub few : length list + length trees ≤ item_limit + 1

-- The snapshot of the commit is this list and no other, and reading it isn't refused.
pub record IsReadBack (repo : Names) (g : Ground) (list : List Entry) (commit : List ℕ)
    : Type 0 where
  pub flat : IsFlat repo commit g list
  pub same : (read : List Entry) → IsFlat repo commit g read → read ≡ list
  pub whole : (fault : Fault) → IsFlattenFault repo commit g fault → ⊥

-- The snapshot of a built tree is the one that it was built of.
abbrev pub FlattenOfBuild : Type 0
FlattenOfBuild =
    (repo : Names) (g : Ground) (list : List Entry) (commit : List ℕ)
    → IsCommitted repo g list commit → IsReadBack repo g list commit

-- The reading of a commit has one end: one list of paths, or one fault.
pub record HasOneEnd : Type 0 where
  pub list : (repo : Names) (g : Ground) (commit : List ℕ) (one two : List Entry)
      → IsFlat repo commit g one → IsFlat repo commit g two → one ≡ two
  pub fault : (repo : Names) (g : Ground) (commit : List ℕ) (one two : Fault)
      → IsFlattenFault repo commit g one → IsFlattenFault repo commit g two → one ≡ two
  pub not_both : (repo : Names) (g : Ground) (commit : List ℕ) (list : List Entry) (fault : Fault)
      → IsFlat repo commit g list → IsFlattenFault repo commit g fault → ⊥

-- No directory in the tree is empty.
abbrev pub HasNoEmpty : Names → List ℕ → Ground → Type 0
HasNoEmpty repo id g = (dir : Dir) → Stands repo id g dir → IsDense dir

-- What is built of a commit's snapshot has the id of the commit's tree, where no directory in it is
-- empty.
abbrev pub BuildOfFlatten : Type 0
BuildOfFlatten =
    (repo : Names) (g : Ground) (commit : List ℕ) (fields : Fields) (read : List Entry)
    (root : List ℕ) (trees : List NewObject)
    → IsCommitAt repo commit g fields → IsFlat repo commit g read
    → HasNoEmpty repo fields.tree.0 g → IsBuilt read root trees → root ≡ fields.tree.0

-- A snapshot's paths ascend in byte order and are valid, and none is above another; so do the paths
-- of a built tree.
pub record ArePathLists : Type 0 where
  pub read : (repo : Names) (g : Ground) (commit : List ℕ) (read : List Entry)
      → IsFlat repo commit g read → IsPathList read
  pub built : (list : List Entry) (root : List ℕ) (trees : List NewObject)
      → IsBuilt list root trees → IsPathList list

-- The tree has this entry.
abbrev pub HasEntry : List TreeEntry → TreeEntry → Type 0
HasEntry [] e = ⊥
HasEntry (x ∷ xs) e = (x ≡ e) ⊎ HasEntry xs e

-- The leaf at a path, from the tree that is held under an id, one name and one tree at a time.
abbrev pub IsLeafAt : Names → Ground → List ℕ → Names → Leaf → Type 0
IsLeafAt repo g id [] leaf = ⊥
IsLeafAt repo g id (n ∷ []) leaf =
    (entries : List TreeEntry) × IsTreeAt repo id g entries × HasEntry entries (leaf_entry n leaf)
IsLeafAt repo g id (n ∷ m ∷ ns) leaf =
    (entries : List TreeEntry) × (sub : List ℕ) × IsTreeAt repo id g entries
    × HasEntry entries (dir_entry n (record { 0 = sub })) × IsLeafAt repo g sub (m ∷ ns) leaf

-- Of a directory that stands, that is the leaf in it.
abbrev pub LeafInStanding : Type 0
LeafInStanding =
    (repo : Names) (g : Ground) (id : List ℕ) (dir : Dir) (path : Names) (leaf : Leaf)
    → Stands repo id g dir → (leaf_in dir path ≡ Some leaf) ↔ IsLeafAt repo g id path leaf

-- The search for pointers has one end: one list of pointers, or one fault.
pub record PointersHaveOneEnd : Type 0 where
  pub list : (repo : Names) (g : Ground) (list : List Entry) (one two : List Pointer)
      → ArePointers repo g list one → ArePointers repo g list two → one ≡ two
  pub not_both : (repo : Names) (g : Ground) (list : List Entry) (pointers : List Pointer)
      (fault : Fault)
      → ArePointed repo list g pointers → pointers_fault repo list g ≡ Some fault → ⊥

-- Of a list whose paths ascend, the key at an entry's path is the one with which its leaf is
-- annexed, and no key is at another path.
pub record KeysAreOfLeaves : Type 0 where
  pub own : (repo : Names) (g : Ground) (list : List Entry) (pointers : List Pointer) (e : Entry)
      (key : PlainKey)
      → IsSorted list → ArePointers repo g list pointers → Has list e
      → (key_at e.path pointers ≡ Some key) ↔ IsAnnexed repo g e.leaf key
  pub other : (repo : Names) (g : Ground) (list : List Entry) (pointers : List Pointer)
      (path : List ℕ)
      → ArePointers repo g list pointers → LacksPath list path → key_at path pointers ≡ None
