-- What has changed between a snapshot and the working files.
use Rattle.std.specs.Prelude.{◌≡◌, ◌↔◌, ℕ, Bool, true, false, not, ◌||◌, List, [], ◌∷◌, ◌++◌, map}
use Rattle.std.specs.Prelude.{Option, Some, None, bytes_eq}
use Rattle.std.specs.List.{AllByRecursion, filter, list_any}
use Rattle.std.specs.List.Sorted.{IsStrictlySortedBy}
use Rattle.std.specs.FinMap.{FinMap, from_entries, entries}
use Rattle.std.specs.Ordering.{nat_cmp}
use Rattle.std.specs.Cmp.Lexicographic.{slice_cmp}
use Rattle.snapshot.specs.All.{IsSorted, IsValidPath}
use Rattle.snapshot.specs.declared.entries.Entry.{Entry}
use Rattle.snapshot.specs.declared.entries.Leaf.{Leaf}
use Rattle.snapshot.specs.declared.entries.Leaf.TheVariants.{Git, Link, Pin}
use Rattle.tree_status.specs.Keeping.{leaf_at}
use Rattle.tree_status.specs.declared.found.WorkingFile.{WorkingFile}
use Rattle.tree_status.specs.declared.states.Change.{Change}
use Rattle.tree_status.specs.declared.states.State.{State}
use Rattle.tree_status.specs.declared.states.State.TheVariants.{Untracked, Modified, Deleted}

-- The paths of working files.
abbrev pub paths_of : List WorkingFile → List (List ℕ)
paths_of files = map (λ file. file.path) files

-- Paths ascend in byte order, and each is one that a snapshot can have.
pub record ArePaths (paths : List (List ℕ)) : Type 0 where
  pub ascending : IsStrictlySortedBy (slice_cmp nat_cmp) paths
  pub valid : AllByRecursion IsValidPath paths

-- Whether a leaf was an executable file.
abbrev pub was_exec : Option Leaf → Bool
was_exec None = false
was_exec (Some (Git id exec)) = exec
was_exec (Some (Link id)) = false
was_exec (Some (Pin id)) = false

-- A working file in the new snapshot: its blob, executable where it was.
abbrev pub new_entry : List Entry → WorkingFile → Entry
new_entry old file = record {
  path = file.path;
  leaf = Git file.id (was_exec (leaf_at file.path old));
}

-- The new snapshot, of all working files.
abbrev pub new_entries : List Entry → List WorkingFile → List Entry
new_entries old files = map (new_entry old) files

-- Whether a leaf is a file with this blob.
abbrev pub is_blob : List ℕ → Option Leaf → Bool
is_blob id None = false
is_blob id (Some (Git blob exec)) = bytes_eq blob.0 id
is_blob id (Some (Link target)) = false
is_blob id (Some (Pin commit)) = false

-- Whether a working file is new, or has another blob than it had.
abbrev pub is_new : List Entry → WorkingFile → Bool
is_new old file = not (is_blob file.id.0 (leaf_at file.path old))

-- The working files that are new, or have another blob than they had.
abbrev pub added : List Entry → List WorkingFile → List WorkingFile
added old files = filter (is_new old) files

-- Whether one of some paths is this one.
abbrev pub is_among : List (List ℕ) → List ℕ → Bool
is_among paths path = list_any (λ one. bytes_eq one path) paths

-- Whether an entry's file is gone.
abbrev pub is_gone : List WorkingFile → Entry → Bool
is_gone files entry = not (is_among (paths_of files) entry.path)

-- The entries of a snapshot whose files are gone.
abbrev pub deleted : List Entry → List WorkingFile → List Entry
deleted old files = filter (is_gone files) old

-- The working files whose contents a dataset lacks.
abbrev pub lacking : List WorkingFile → List WorkingFile
lacking files = filter (λ file. file.lacks) files

-- Whether nothing is in a list.
abbrev pub is_nothing : {A : Type 0} → List A → Bool
is_nothing [] = true
is_nothing (x ∷ xs) = false

-- Whether the new snapshot is another than the old one.
abbrev pub is_other : List Entry → List WorkingFile → Bool
is_other old files = not (is_nothing (added old files)) || not (is_nothing (deleted old files))

-- Whether anything has changed: the snapshot, or a content is lacked.
abbrev pub is_changed : List Entry → List WorkingFile → Bool
is_changed old files = is_other old files || not (is_nothing (lacking files))

-- The state of an added file, by the leaf at its path: untracked where there was none.
abbrev pub new_state : Option Leaf → State
new_state None = Untracked
new_state (Some leaf) = Modified

-- The state of an added file, by its path.
abbrev pub added_state : List Entry → List ℕ → State
added_state old path = new_state (leaf_at path old)

-- The states of what has changed, by their paths.
abbrev pub states_by_path : List Entry → List WorkingFile → List (List ℕ × State)
states_by_path old files =
    map (λ file. (file.path, added_state old file.path)) (added old files)
    ++ (map (λ file. (file.path, Modified)) (lacking files)
    ++ map (λ entry. (entry.path, Deleted)) (deleted old files))

-- States in byte order of their paths.
abbrev pub StateMap : Type 0
StateMap = FinMap (slice_cmp nat_cmp) State

-- A path and its state.
abbrev pub change_at : List ℕ → State → Change
change_at path state = record { path = path; state = state }

-- What has changed, in byte order of the paths.
unfoldable pub changes : List Entry → List WorkingFile → List Change
changes old files =
    let states : StateMap = from_entries (states_by_path old files) in
    map (λ entry. change_at entry.0 entry.1) (entries states)

-- The paths of changes ascend in byte order.
abbrev pub AreOrdered : List Change → Type 0
AreOrdered changes =
    IsStrictlySortedBy (slice_cmp nat_cmp) (map (λ change. change.path) changes)

-- Nothing is added or deleted exactly where the new snapshot is the old one. The paths of both
-- ascend.
abbrev pub NoOtherIsSame : Type 0
NoOtherIsSame = (old : List Entry) (files : List WorkingFile)
    → IsSorted old → IsStrictlySortedBy (slice_cmp nat_cmp) (paths_of files)
    → (is_other old files ≡ false) ↔ (new_entries old files ≡ old)
