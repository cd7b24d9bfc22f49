-- A directory as git spells it: its items in order, each directory among them with its own.
use Rattle.std.specs.Prelude.{◌≡◌, ℕ, Bool, true, false, ◌+◌, ◌≤◌, List, [], ◌∷◌, ◌++◌, length}
use Rattle.std.specs.Prelude.{Option, Some, None, bytes_eq, if◌then◌else◌}
use Rattle.std.specs.List.{All}
use Rattle.places.specs.All.{Names, slash, longest}
use Rattle.git_objects.specs.All.{oid, tree_text, is_tree, IsEntryStored}
use Rattle.git_objects.specs.declared.entries.TreeEntry.{TreeEntry}
use Rattle.git_objects.specs.declared.objects.ObjKind.TheVariants.{Tree as TreeKind}
use Rattle.object_store.specs.declared.objects.NewObject.{NewObject}
use Rattle.snapshot.specs.Leaves.{leaf_entry, dir_entry}
use Rattle.snapshot.specs.declared.entries.Leaf.{Leaf}
use Rattle.snapshot.specs.declared.entries.Entry.{Entry}

-- Nothing more; a leaf and more; or a directory and more.
pub data Dir : Type 0 where
  Empty : Dir
  Item : (name : List ℕ) (leaf : Leaf) (more : Dir) → Dir
  Sub : (name : List ℕ) (sub : Dir) (more : Dir) → Dir

-- The entries of its tree, in which a directory stands by the id of its own tree.
abbrev pub entries_of : Dir → List TreeEntry
entries_of Empty = []
entries_of (Item name leaf more) = leaf_entry name leaf ∷ entries_of more
entries_of (Sub name sub more) =
    dir_entry name (record { 0 = oid TreeKind (tree_text (entries_of sub)) }) ∷ entries_of more

-- The id of its tree.
abbrev pub root_id : Dir → List ℕ
root_id dir = oid TreeKind (tree_text (entries_of dir))

-- The object of its tree.
abbrev pub tree_of : Dir → NewObject
tree_of dir = record { kind = TreeKind; body = tree_text (entries_of dir) }

-- The trees of the directories in it, each after those in it.
abbrev pub inner_objects : Dir → List NewObject
inner_objects Empty = []
inner_objects (Item name leaf more) = inner_objects more
inner_objects (Sub name sub more) = (inner_objects sub ++ tree_of sub ∷ []) ++ inner_objects more

-- All its trees, its own last.
abbrev pub tree_objects : Dir → List NewObject
tree_objects dir = inner_objects dir ++ tree_of dir ∷ []

-- The path of what a directory has, by the directory's name and the path that it lies in; such a
-- path ends in a slash or is nothing.
abbrev pub inside : List ℕ → List ℕ → List ℕ
inside path name = path ++ name ++ slash ∷ []

-- Every path and its leaf, in the order of the trees.
abbrev pub listed : List ℕ → Dir → List Entry
listed path Empty = []
listed path (Item name leaf more) = record { path = path ++ name; leaf = leaf } ∷ listed path more
listed path (Sub name sub more) = listed (inside path name) sub ++ listed path more

-- The paths from the root.
abbrev pub paths_of : Dir → List Entry
paths_of dir = listed [] dir

-- How many leaves and directories are in it, at any depth.
abbrev pub item_count : Dir → ℕ
item_count Empty = 0
item_count (Item name leaf more) = 1 + item_count more
item_count (Sub name sub more) = 1 + item_count sub + item_count more

-- The leaf at a path, of which each name leads one directory down.
abbrev pub leaf_in : Dir → Names → Option Leaf
leaf_in Empty path = None
leaf_in (Item name leaf more) [] = None
leaf_in (Item name leaf more) (n ∷ []) =
    if bytes_eq name n then Some leaf else leaf_in more (n ∷ [])
leaf_in (Item name leaf more) (n ∷ m ∷ ns) =
    if bytes_eq name n then None else leaf_in more (n ∷ m ∷ ns)
leaf_in (Sub name sub more) [] = None
leaf_in (Sub name sub more) (n ∷ ns) =
    if bytes_eq name n then leaf_in sub ns else leaf_in more (n ∷ ns)

-- P holds of each directory in it, at any depth.
abbrev pub EachSub : (Dir → Type 0) → Dir → Type 0
EachSub P Empty = Unit {0}
EachSub P (Item name leaf more) = EachSub P more
EachSub P (Sub name sub more) = P sub × EachSub P sub × EachSub P more

-- Its entries make a tree.
pub record IsTreeOf (dir : Dir) : Type 0 where
  pub stored : All IsEntryStored (entries_of dir)
  pub valid : is_tree (entries_of dir) ≡ true

-- So do those of each directory in it.
abbrev pub IsDir : Dir → Type 0
IsDir dir = IsTreeOf dir × EachSub IsTreeOf dir

-- Nothing is in it.
abbrev pub is_empty : Dir → Bool
is_empty Empty = true
is_empty (Item name leaf more) = false
is_empty (Sub name sub more) = false

-- No directory in it is empty.
abbrev pub IsDense : Dir → Type 0
IsDense dir = EachSub (λ sub. is_empty sub ≡ false) dir

-- No path is too long, and none of a directory.
abbrev pub AreShort : List ℕ → Dir → Type 0
AreShort path Empty = Unit {0}
AreShort path (Item name leaf more) = (length (path ++ name) ≤ longest) × AreShort path more
AreShort path (Sub name sub more) =
    (length (path ++ name) ≤ longest) × AreShort (inside path name) sub × AreShort path more

-- The items of one directory, and then those of another.
abbrev pub joined : Dir → Dir → Dir
joined Empty dir = dir
joined (Item name leaf more) dir = Item name leaf (joined more dir)
joined (Sub name sub more) dir = Sub name sub (joined more dir)
