-- By what working files are kept: the snapshot that is HEAD's, and what is asked for new files.
use Rattle.std.specs.Prelude.{ℕ, Bool, List, [], ◌∷◌, Option, Some, None, if◌then◌else◌, bytes_eq}
use Rattle.annex_keys.specs.All.{PlainKey}
use Rattle.git_objects.specs.declared.ids.Id.{Id}
use Rattle.kept_files.specs.All.{IsKept, size_limit}
use Rattle.kept_files.specs.declared.kept.Kept.{Kept}
use Rattle.snapshot.specs.All.{key_at}
use Rattle.snapshot.specs.declared.entries.Entry.{Entry}
use Rattle.snapshot.specs.declared.entries.Leaf.{Leaf}
use Rattle.snapshot.specs.declared.entries.Leaf.TheVariants.{Git, Link, Pin}
use Rattle.snapshot.specs.declared.pointing.Pointer.{Pointer}

-- A snapshot, the keys of its annexed leaves, and whether git keeps new files.
pub record KeepBy : Type 0 where
  pub old : List Entry
  pub pointers : List Pointer
  pub to_git : Bool

-- The leaf at a path of a snapshot, if any.
abbrev pub leaf_at : List ℕ → List Entry → Option Leaf
leaf_at path [] = None
leaf_at path (entry ∷ list) =
    if bytes_eq entry.path path then Some entry.leaf else leaf_at path list

-- The id of the blob of a leaf that is a file.
abbrev pub blob_in : Option Leaf → Option Id
blob_in None = None
blob_in (Some (Git id exec)) = Some id
blob_in (Some (Link id)) = None
blob_in (Some (Pin id)) = None

-- The blob of the old leaf at a path, where that is a file.
abbrev pub old_blob : KeepBy → List ℕ → Option Id
old_blob by path = blob_in (leaf_at path by.old)

-- The key of the old leaf at a path, where that is annexed.
abbrev pub old_key : KeepBy → List ℕ → Option PlainKey
old_key by path = key_at path by.pointers

-- How many bytes the file at a path may have.
abbrev pub limit_by : KeepBy → List ℕ → ℕ
limit_by by path = size_limit (old_blob by path) (old_key by path) path by.to_git

-- How a file with these bytes is kept at a path.
abbrev pub IsKeptBy : KeepBy → List ℕ → List ℕ → Kept → Type 0
IsKeptBy by path bytes kept = IsKept (old_blob by path) (old_key by path) path by.to_git bytes kept
