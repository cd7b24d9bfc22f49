-- The working files of a dataset, and why a walk over them is refused.
use Rattle.std.specs.Prelude.{ℕ, ◌+◌, Bool, not, ◌&&◌, ◌||◌, nat_le, if◌then◌else◌, List, [], ◌∷◌}
use Rattle.std.specs.Prelude.{◌++◌, map, length, drop, Option, Some, None, bytes_eq, codes}
use Rattle.std.specs.List.{list_all, filter, flat_map}
use Rattle.std.specs.FinMap.{FinMap, from_entries, entries, keys}
use Rattle.std.specs.Ordering.{nat_cmp}
use Rattle.std.specs.Cmp.Lexicographic.{slice_cmp}
use Rattle.places.specs.All.{Names, path_of, relative, pieces, joined, is_text, text_of, is_above}
use Rattle.places.specs.All.{all_but_last, Ground, file_at, stands, stands_below}
use Rattle.file_store.specs.All.{is_item_name, or_next}
use Rattle.repository.specs.All.{dlrepo, head_place, item_limit}
use Rattle.faults.specs.declared.faults.Fault.{Fault}
use Rattle.faults.specs.declared.faults.Fault.TheVariants.{OddKind, TooLarge}

-- What a walk meets at a path: a directory, a dataset within the dataset, or a working file.
pub data ItemKind : Type 0 where
  Directory : ItemKind
  Nested : ItemKind
  Working : (bytes : List ℕ) → ItemKind

-- What a walk meets, by its path below the root, in byte order of the paths.
abbrev pub Items : Type 0
Items = FinMap (slice_cmp nat_cmp) ItemKind

-- A name of the dataset's own: its repository's or git's.
abbrev pub is_own : List ℕ → Bool
is_own name = bytes_eq name dlrepo || bytes_eq name (codes ".git")

-- A name that a directory can have, and that is not the dataset's own.
abbrev pub is_working : List ℕ → Bool
is_working name = is_item_name name && not (is_own name)

-- A walk meets what has these names below the root: all of them are working, and what lies above
-- the last has a place. (A directory that has none is refused itself, before what lies in it.)
abbrev pub is_met : Names → Names → Bool
is_met root names = list_all is_working names && is_text (text_of (root ++ all_but_last names))

-- Some names, and each beginning of them.
abbrev pub beginnings : Names → List Names
beginnings [] = []
beginnings (n ∷ ns) = (n ∷ []) ∷ map (λ ms. n ∷ ms) (beginnings ns)

-- What a walk meets of one file: the file, and the directories above it up to the root.
abbrev pub met_of : Names → Names → List Names
met_of root place =
    if is_above root place then filter (is_met root) (beginnings (drop (length root) place)) else []

-- A directory is a dataset where its repository has a HEAD.
abbrev pub is_nested : Ground → Names → Bool
is_nested g place = is_text (joined place (codes ".dlrepo/HEAD")) && stands g (head_place place)

-- A directory by whether it is a dataset.
abbrev pub directory_kind : Bool → ItemKind
directory_kind nested = if nested then Nested else Directory

-- A file is a working file, and what lies above files a directory.
abbrev pub item_kind : Option (List ℕ) → Bool → ItemKind
item_kind (Some bytes) nested = Working bytes
item_kind None nested = directory_kind nested

-- What lies below a root.
unfoldable pub items : Names → Ground → Items
items root g =
    from_entries (map (λ names.
    (path_of names, item_kind (file_at g (root ++ names)) (is_nested g (root ++ names))))
    (flat_map (met_of root) (keys g)))

-- What stands at a place, if anything.
abbrev pub item_of : Option (List ℕ) → Bool → Bool → Option ItemKind
item_of (Some bytes) below nested = Some (Working bytes)
item_of None below nested = if below then Some (directory_kind nested) else None

-- What stands at a place of a ground.
unfoldable pub item_at : Ground → Names → Option ItemKind
item_at g place = item_of (file_at g place) (stands_below g place) (is_nested g place)

-- The path of the directory in which a path lies, `.` for the root.
abbrev pub directory_of : List ℕ → List ℕ
directory_of path = relative (all_but_last (pieces path))

-- Why an item with a place is refused: it is a dataset, or has more bytes than the file at its path
-- may have.
abbrev pub kind_fault : (List ℕ → ℕ) → List ℕ → ItemKind → Option Fault
kind_fault limits path Directory = None
kind_fault limits path Nested = Some (OddKind path)
kind_fault limits path (Working bytes) =
    if nat_le (length bytes) (limits path) then None else Some (TooLarge path (length bytes))

-- Why an item is refused: its path may be too long for a place.
abbrev pub item_fault : (List ℕ → ℕ) → Names → List ℕ → ItemKind → Option Fault
item_fault limits root path kind =
    if is_text (joined root path) then kind_fault limits path kind
    else Some (TooLarge (directory_of path) (length (joined root path)))

-- The first refusal along some items, of which so many were met before.
abbrev pub fault_along : (List ℕ → ℕ) → Names → ℕ → List (List ℕ × ItemKind) → Option Fault
fault_along limits root count [] = None
fault_along limits root count (item ∷ rest) =
    if nat_le item_limit count then Some (TooLarge (codes ".") 100001)
    else or_next (item_fault limits root item.0 item.1) (fault_along limits root (count + 1) rest)

-- Why the walk over what lies below a root is refused, where the file at a path may have so many
-- bytes.
abbrev pub walk_fault : (List ℕ → ℕ) → Names → Ground → Option Fault
walk_fault limits root g = fault_along limits root 0 (entries (items root g))

-- A working file: its path below the root, and its bytes.
abbrev pub WorkFile : Type 0
WorkFile = List ℕ × List ℕ

-- The path of a working file.
abbrev pub path_in : WorkFile → List ℕ
path_in file = file.0

-- The working files among some items, by path and bytes.
abbrev pub files_among : List (List ℕ × ItemKind) → List WorkFile
files_among [] = []
files_among ((path, Directory) ∷ rest) = files_among rest
files_among ((path, Nested) ∷ rest) = files_among rest
files_among ((path, Working bytes) ∷ rest) = (path, bytes) ∷ files_among rest

-- The working files below a root, in byte order of their paths.
abbrev pub working : Names → Ground → List WorkFile
working root g = files_among (entries (items root g))
