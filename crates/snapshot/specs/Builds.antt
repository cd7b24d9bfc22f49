-- A directory that is built from its paths.
use Rattle.std.specs.Prelude.{◌≡◌, ℕ, ◌+◌, ◌<◌, ◌≤◌, true, false, List, [], ◌∷◌, ◌++◌, length, map}
use Rattle.std.specs.Prelude.{drop, ◌==◌}
use Rattle.std.specs.List.{All, list_any}
use Rattle.places.specs.All.{slash}
use Rattle.faults.specs.declared.faults.Fault.TheVariants.{PathClash}
use Rattle.faults.specs.declared.faults.Trouble.{Trouble}
use Rattle.faults.specs.declared.faults.Trouble.TheVariants.{Refused, NoMemory}
use Rattle.git_objects.specs.All.{oid, tree_text, is_tree, IsEntryStored}
use Rattle.git_objects.specs.declared.entries.TreeEntry.{TreeEntry}
use Rattle.git_objects.specs.declared.objects.ObjKind.TheVariants.{Tree as TreeKind}
use Rattle.object_store.specs.declared.objects.NewObject.{NewObject}
use Rattle.snapshot.specs.Dirs.{Dir, Empty, Item, Sub, entries_of, root_id, inner_objects}
use Rattle.snapshot.specs.Dirs.{tree_objects, paths_of, IsTreeOf, EachSub, IsDense}
use Rattle.snapshot.specs.Order.{IsLeastClash}
use Rattle.snapshot.specs.declared.entries.Entry.{Entry}
use Rattle.snapshot.specs.declared.building.Rest.{Rest}

-- What is left of a path, as an entry.
abbrev pub seen : Rest → Entry
seen rest = record { path = rest.path.now; leaf = rest.leaf }

-- What is left of each path.
abbrev pub all_seen : List Rest → List Entry
all_seen rests = map seen rests

-- An entry below a directory's path.
abbrev pub below : List ℕ → Entry → Entry
below path entry = record { path = path ++ entry.path; leaf = entry.leaf }

-- Entries below a directory's path.
abbrev pub all_below : List ℕ → List Entry → List Entry
all_below path list = map (below path) list

-- How many bytes the paths have, each with one more.
abbrev pub weight : List Entry → ℕ
weight [] = 0
weight (entry ∷ list) = length entry.path + 1 + weight list

-- No slash is in it.
abbrev pub IsSingle : List ℕ → Type 0
IsSingle name = list_any (λ b. b == slash) name ≡ false

-- The first of a list doesn't lie in the directory with this name.
abbrev pub LeavesDir : List ℕ → List Entry → Type 0
LeavesDir name [] = Unit {0}
LeavesDir name (entry ∷ list) = (rest : List ℕ) → entry.path ≡ name ++ slash ∷ rest → ⊥

-- The list is of one name's directory, `part`, and then of what isn't.
pub record IsGroup (name : List ℕ) (list part : List Entry) : Type 0 where
  pub after : List Entry
  pub split : list ≡ all_below (name ++ slash ∷ []) part ++ after
  pub ends : LeavesDir name after

-- The object of a tree with these entries.
abbrev pub tree_object : List TreeEntry → NewObject
tree_object entries = record { kind = TreeKind; body = tree_text entries }

-- Each name stands alone, and each directory's paths are together: what comes next doesn't lie in
-- it.
abbrev pub AreGrouped : Dir → List Entry → Type 0
AreGrouped Empty next = Unit {0}
AreGrouped (Item name leaf more) next = IsSingle name × AreGrouped more next
AreGrouped (Sub name sub more) next =
    IsSingle name × LeavesDir name (paths_of more ++ next) × AreGrouped more next

-- The directory that is left to build of a list whose first items are done.
pub record IsMade (list : List Entry) (dir : Dir) : Type 0 where
  pub same : list ≡ paths_of dir
  pub dense : IsDense dir
  pub subs : EachSub IsTreeOf dir

-- One more item was built, of the first entries of a list.
pub record BuildsNext (list : List Entry) (taken : ℕ) (entries more : List TreeEntry)
    (objects stored : List NewObject) : Type 0 where
  pub one : Dir
  pub split : list ≡ paths_of one ++ drop taken list
  pub some : 0 < taken
  pub within : taken ≤ length list
  pub dense : IsDense one
  pub subs : EachSub IsTreeOf one
  pub grouped : AreGrouped one (drop taken list)
  pub spelled : more ≡ entries ++ entries_of one
  pub put : stored ≡ objects ++ inner_objects one

-- A whole directory was built.
pub record BuildsDir (list : List Entry) (id : List ℕ) (objects stored : List NewObject)
    : Type 0 where
  pub dir : Dir
  pub built : IsMade list dir
  pub tree : IsTreeOf dir
  pub root : id ≡ root_id dir
  pub put : stored ≡ objects ++ tree_objects dir

-- The first entries of a list were built, and these are left.
pub record BuildsFront (list left : List Entry) (entries : List TreeEntry)
    (objects stored : List NewObject) : Type 0 where
  pub dir : Dir
  pub split : list ≡ paths_of dir ++ left
  pub dense : IsDense dir
  pub subs : EachSub IsTreeOf dir
  pub grouped : AreGrouped dir left
  pub spelled : entries ≡ entries_of dir
  pub put : stored ≡ objects ++ inner_objects dir

-- A tree was added to the objects.
pub record PutsTree (entries : List TreeEntry) (id : List ℕ) (objects stored : List NewObject)
    : Type 0 where
  pub kept : All IsEntryStored entries
  pub valid : is_tree entries ≡ true
  pub root : id ≡ oid TreeKind (tree_text entries)
  pub put : stored ≡ objects ++ tree_object entries ∷ []

-- A build is refused exactly for the least clash.
abbrev pub BuildRefused : List Entry → Trouble → Type 0
BuildRefused list NoMemory = Unit {0}
BuildRefused list (Refused (PathClash path)) = IsLeastClash list path
BuildRefused list _ = ⊥
