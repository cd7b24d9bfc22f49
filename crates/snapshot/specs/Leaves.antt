-- What stands at a path of a snapshot.
use Rattle.std.specs.Prelude.{ℕ, List, if◌then◌else◌}
use Rattle.git_objects.specs.declared.ids.Id.{Id}
use Rattle.git_objects.specs.declared.entries.Mode.{Mode}
use Rattle.git_objects.specs.declared.entries.TreeEntry.{TreeEntry}
use Rattle.git_objects.specs.declared.entries.Mode.TheVariants.{File, Exec, Link as LinkMode}
use Rattle.git_objects.specs.declared.entries.Mode.TheVariants.{Dir as DirMode, Pin as PinMode}
use Rattle.snapshot.specs.declared.entries.Leaf.{Leaf}
use Rattle.snapshot.specs.declared.entries.Leaf.TheVariants.{Git, Link, Pin}

-- The mode of a leaf in a tree.
abbrev pub mode_of : Leaf → Mode
mode_of (Git id exec) = if exec then Exec else File
mode_of (Link id) = LinkMode
mode_of (Pin id) = PinMode

-- The id of a leaf's object.
abbrev pub id_of : Leaf → Id
id_of (Git id exec) = id
id_of (Link id) = id
id_of (Pin id) = id

-- The entry of a leaf in a tree.
abbrev pub leaf_entry : List ℕ → Leaf → TreeEntry
leaf_entry name leaf = record { mode = mode_of leaf; name = name; id = id_of leaf }

-- The entry of a directory with this id.
abbrev pub dir_entry : List ℕ → Id → TreeEntry
dir_entry name id = record { mode = DirMode; name = name; id = id }
