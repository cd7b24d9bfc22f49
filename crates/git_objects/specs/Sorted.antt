-- A list of entries is tested in the order of its keys, and not pair by pair.
use Rattle.std.specs.Prelude.{◌≡◌, ℕ, Bool, true, ◌&&◌, List, length, bytes_eq}
use Rattle.std.specs.List.{AllAdjacentBelow, list_any}
use Rattle.git_objects.specs.Entries.{is_dir, sort_key, sorts_below}
use Rattle.git_objects.specs.declared.entries.TreeEntry.{TreeEntry}

-- Each entry is below the next one.
abbrev pub IsAscending : List TreeEntry → Type 0
IsAscending entries =
    AllAdjacentBelow (λ one next. sorts_below one next ≡ true) entries (length entries)

-- An entry is sorted by this text.
abbrev pub has_key : List ℕ → List TreeEntry → Bool
has_key key entries = list_any (λ entry. bytes_eq (sort_key entry) key) entries

-- A directory whose name is a file's too.
abbrev pub is_twin : List TreeEntry → TreeEntry → Bool
is_twin entries entry = is_dir entry.mode && has_key entry.name entries

-- A directory with the name of a file is among the entries.
abbrev pub has_twins : List TreeEntry → Bool
has_twins entries = list_any (is_twin entries) entries
