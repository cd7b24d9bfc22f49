-- How the steps of a walk end.
use Rattle.std.specs.Prelude.{◌≡◌, ◌⊎◌, ◌<◌, ℕ, ◌+◌, Bool, true, false, IsTrue, ◌==◌, if◌then◌else◌}
use Rattle.std.specs.Prelude.{List, [], ◌∷◌, ◌++◌, map, length, Option, Some, None, bytes_eq, codes}
use Rattle.std.specs.Prelude.{nat_lt}
use Rattle.std.specs.List.{filter, list_all, list_any}
use Rattle.std.specs.FinMap.{entries, get}
use Rattle.places.specs.All.{Names, slash, is_text, text_of, joined, names_of, pieces, is_above}
use Rattle.places.specs.All.{Ground, longest}
use Rattle.file_store.specs.All.{kind_at}
use Rattle.file_store.specs.declared.kinds.Kind.{Kind}
use Rattle.faults.specs.declared.faults.Fault.{Fault}
use Rattle.faults.specs.declared.faults.Fault.TheVariants.{OddKind, TooLarge, Dirty}
use Rattle.kept_files.specs.All.{git_file_limit}
use Rattle.repository.specs.All.{item_limit}
use Rattle.tree_status.specs.Working.{ItemKind, Working, Items, items, item_at, is_working}
use Rattle.tree_status.specs.Working.{directory_of, kind_fault, path_in}
use Rattle.tree_status.specs.Working.{fault_along, walk_fault}
use Rattle.tree_status.specs.Working.{files_among, working}
use Rattle.tree_status.specs.declared.found.Found.{Found}

-- The answer of a walk: no refusal, and the paths of the working files.
abbrev pub AreWorking : (List ℕ → ℕ) → Names → Ground → List (List ℕ) → Type 0
AreWorking limits root g list =
    (walk_fault limits root g ≡ None) × (list ≡ map path_in (working root g))

-- Some items were met and not refused.
pub record Went (limits : List ℕ → ℕ) (root : Names) (some : List (List ℕ × ItemKind))
    (old new : Found) : Type 0 where
  pub fault : fault_along limits root old.count some ≡ None
  pub count : new.count ≡ old.count + length some
  pub paths : new.paths.items ≡ old.paths.items ++ map path_in (files_among some)

-- The list of an item, or none.
abbrev pub one_of : List ℕ → Option ItemKind → List (List ℕ × ItemKind)
one_of path None = []
one_of path (Some kind) = (path, kind) ∷ []

-- The refusal of a file at a path: it is gone, or has too many bytes.
abbrev pub file_fault : (List ℕ → ℕ) → List ℕ → Option (List ℕ) → Option Fault
file_fault limits path None = Some (Dirty path)
file_fault limits path (Some bytes) = kind_fault limits path (Working bytes)

-- A file was added.
abbrev pub AddsFile : (List ℕ → ℕ) → List ℕ → Option (List ℕ) → Found → Found → Type 0
AddsFile limits path None old new = ⊥
AddsFile limits path (Some bytes) old new =
    (kind_fault limits path (Working bytes) ≡ None) × (new.count ≡ old.count)
    × (new.paths.items ≡ old.paths.items ++ path ∷ [])

-- What stands at a place was taken: it isn't refused, and a file was added.
abbrev pub Takes : (List ℕ → ℕ) → List ℕ → Option ItemKind → Found → Found → Type 0
Takes limits path None old new = ⊥
Takes limits path (Some kind) old new =
    (kind_fault limits path kind ≡ None) × (new.count ≡ old.count)
    × (new.paths.items ≡ old.paths.items ++ map path_in (files_among ((path, kind) ∷ [])))

-- The refusal of what stands at a place.
abbrev pub RefusesItem : (List ℕ → ℕ) → List ℕ → Option ItemKind → Fault → Type 0
RefusesItem limits path None fault = Unit {0}
RefusesItem limits path (Some kind) fault = kind_fault limits path kind ≡ Some fault

-- What may come of a file at a path, whatever the files tell.
abbrev pub MayFile : List ℕ → Fault → Type 0
MayFile path (Dirty at) = at ≡ path
MayFile path (TooLarge at size) = (at ≡ path) × (git_file_limit < size)
MayFile path fault = ⊥

-- What may come of a directory at a path, whatever the files tell.
abbrev pub MayNest : List ℕ → Fault → Type 0
MayNest path (OddKind at) = at ≡ path
MayNest path fault = ⊥

-- What may come of what stands at a path, whatever the files tell.
abbrev pub MayTake : List ℕ → Fault → Type 0
MayTake path (OddKind at) = at ≡ path
MayTake path (Dirty at) = at ≡ path
MayTake path (TooLarge at size) = (at ≡ path) × (git_file_limit < size)
MayTake path fault = ⊥

-- There is a place at the path below the root.
abbrev pub HasPlace : Names → List ℕ → Type 0
HasPlace root path = is_text (joined root path) ≡ true

-- A path of working names.
abbrev pub IsWorkingPath : List ℕ → Type 0
IsWorkingPath path = list_all is_working (pieces path) ≡ true

-- A name is longer than those of places are.
abbrev pub is_long_name : List ℕ → Bool
is_long_name name = nat_lt 255 (length name)

-- Why a path of working names makes no place below the root: the place's text would be too long, or
-- a name is.
abbrev pub IsPastPlaces : Names → List ℕ → Type 0
IsPastPlaces root path =
    (longest < length (joined root path)) ⊎ (list_any is_long_name (pieces path) ≡ true)

-- A path makes no place below the root: it is told by its directory's path, with the length of what
-- would be the place's text.
pub record IsLongItem (root : Names) (told : List ℕ) (size : ℕ) : Type 0 where
  pub path : List ℕ
  pub working : IsWorkingPath path
  pub is : told ≡ directory_of path
  pub counted : size ≡ length (joined root path)
  pub over : IsPastPlaces root path

-- Beyond a limit: of the number of items, of a file's bytes, or of the places.
abbrev pub IsBeyond : Names → List ℕ → ℕ → Type 0
IsBeyond root path size =
    ((path ≡ codes ".") × (size ≡ item_limit + 1))
    ⊎ (((git_file_limit < size) × HasPlace root path) ⊎ IsLongItem root path size)

-- What may come of an item, whatever the files tell.
abbrev pub MayMeet : Names → Fault → Type 0
MayMeet root (OddKind path) = HasPlace root path
MayMeet root (Dirty path) = HasPlace root path
MayMeet root (TooLarge path size) = IsBeyond root path size
MayMeet root fault = ⊥

-- What may come of a walk, whatever the files tell. That a listed file is gone comes only where
-- they don't tell.
abbrev pub MayWalk : Bool → Names → Fault → Type 0
MayWalk tells root (OddKind path) = HasPlace root path
MayWalk tells root (Dirty path) = HasPlace root path × (IsTrue tells → ⊥)
MayWalk tells root (TooLarge path size) = IsBeyond root path size
MayWalk tells root fault = ⊥

-- The beginning of all paths in a directory: nothing for the root, and else its path and a slash.
abbrev pub front_of : Names → List ℕ
front_of [] = []
front_of (n ∷ ns) = n ++ slash ∷ front_of ns

-- The text is such a beginning, of names that are working.
abbrev pub IsFront : List ℕ → Type 0
IsFront front =
    (front ≡ front_of (names_of front)) × (list_all is_working (names_of front) ≡ true)

-- The place is that of the directory whose paths begin so.
abbrev pub IsAt : Names → Names → List ℕ → Type 0
IsAt root place front =
    IsFront front × (place ≡ root ++ names_of front) × (is_text (text_of place) ≡ true)

-- A path lies in the directory whose paths begin so.
abbrev pub is_within : List ℕ → List ℕ → Bool
is_within front path = is_above (names_of front) (pieces path)

-- The items in the directory whose paths begin so.
unfoldable pub within : List ℕ → Items → List (List ℕ × ItemKind)
within front all = filter (λ item. is_within front item.0) (entries all)

-- Whether a text ends in a slash.
abbrev pub is_front : List ℕ → Bool
is_front [] = false
is_front (b ∷ []) = b == slash
is_front (b ∷ c ∷ rest) = is_front (c ∷ rest)

-- The items of a task: those in a directory, or the one at a path.
unfoldable pub part : List ℕ → Items → List (List ℕ × ItemKind)
part path all =
    if is_front path then within path all else filter (λ item. bytes_eq path item.0) (entries all)

-- A task as a listing gives it, by whether its path ends in a slash: what lies in a directory, or
-- an item whose kind is that on the ground and that is the one among the items.
abbrev pub IsPlannedBy : Bool → Names → Ground → List ℕ → Kind → Type 0
IsPlannedBy true root g path kind = IsFront path
IsPlannedBy false root g path kind =
    (kind ≡ kind_at g (root ++ names_of path))
    × (get (items root g) path ≡ item_at g (root ++ names_of path))

-- A task as a listing gives it.
abbrev pub IsPlanned : Names → Ground → List ℕ → Kind → Type 0
IsPlanned root g path kind = IsPlannedBy (is_front path) root g path kind
