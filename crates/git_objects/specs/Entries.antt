-- The entries of a tree, and which of them make one.
use Rattle.std.specs.Prelude.{ℕ, Bool, true, false, not, ◌&&◌, List, [], ◌∷◌, ◌++◌, codes, bytes_eq}
use Rattle.std.specs.List.{flat_map, list_all}
use Rattle.std.specs.Cmp.Lexicographic.{slice_cmp}
use Rattle.std.specs.Ordering.{nat_cmp, is_lt}
use Rattle.places.specs.All.{slash, is_name}
use Rattle.git_objects.specs.declared.entries.Mode.{Mode}
use Rattle.git_objects.specs.declared.entries.Mode.TheVariants.{File, Exec, Link, Dir, Pin}
use Rattle.git_objects.specs.declared.entries.TreeEntry.{TreeEntry}

-- The digits of a mode.
abbrev pub mode_text : Mode → List ℕ
mode_text File = codes "100644"
mode_text Exec = codes "100755"
mode_text Link = codes "120000"
mode_text Dir = codes "40000"
mode_text Pin = codes "160000"

-- The mode, a blank, the name, NUL and the id.
unfoldable pub entry_of : Mode → List ℕ → List ℕ → List ℕ
entry_of mode name id = mode_text mode ++ 32 ∷ name ++ 0 ∷ id

-- An entry's text.
abbrev pub entry_text : TreeEntry → List ℕ
entry_text entry = entry_of entry.mode entry.name entry.id.0

-- A tree's body: the entries' texts one after the other.
abbrev pub tree_text : List TreeEntry → List ℕ
tree_text entries = flat_map entry_text entries

-- A name between two slashes that isn't git's or this program's own.
unfoldable pub is_entry : TreeEntry → Bool
is_entry entry =
    is_name entry.name
    && not (bytes_eq entry.name (codes ".git"))
    && not (bytes_eq entry.name (codes ".dlrepo"))

-- The mode of directories.
abbrev pub is_dir : Mode → Bool
is_dir File = false
is_dir Exec = false
is_dir Link = false
is_dir Dir = true
is_dir Pin = false

-- What stands after a name where entries are sorted.
abbrev pub name_end : Bool → List ℕ
name_end true = slash ∷ []
name_end false = []

-- The bytes by which entries are sorted.
abbrev pub sort_key : TreeEntry → List ℕ
sort_key entry = entry.name ++ name_end (is_dir entry.mode)

-- An entry's bytes are below another one's.
abbrev pub sorts_below : TreeEntry → TreeEntry → Bool
sorts_below earlier later = is_lt (slice_cmp nat_cmp (sort_key earlier) (sort_key later))

-- An entry may stand anywhere before another one.
abbrev pub is_before : TreeEntry → TreeEntry → Bool
is_before earlier later = sorts_below earlier later && not (bytes_eq earlier.name later.name)

-- Valid names, in order, and each once.
abbrev pub is_tree : List TreeEntry → Bool
is_tree [] = true
is_tree (e ∷ es) = is_entry e && list_all (is_before e) es && is_tree es
