-- The lines that a save says of what has changed.
use Rattle.std.specs.Prelude.{◌≡◌, ℕ, List, [], ◌∷◌, map, codes}
use Rattle.faults.specs.declared.lines.Line.{Line}
use Rattle.snapshot.specs.declared.entries.Entry.{Entry}
use Rattle.tree_status.specs.All.{changes}
use Rattle.tree_status.specs.declared.found.WorkingFile.{WorkingFile}
use Rattle.tree_status.specs.declared.states.Change.{Change}
use Rattle.tree_status.specs.declared.states.State.{State}
use Rattle.tree_status.specs.declared.states.State.TheVariants.{Untracked, Modified, Deleted}

-- What a save does with a path, by its state.
abbrev pub action_of : State → List ℕ
action_of Untracked = codes "add"
action_of Modified = codes "add"
action_of Deleted = codes "delete"

-- The line of a change of a file.
abbrev pub change_line : Change → Line
change_line change = record {
  action = action_of change.state;
  status = codes "ok";
  path = change.path;
  kind = codes "file";
}

-- The lines of the changes, in byte order of the paths.
abbrev pub change_lines : List Entry → List WorkingFile → List Line
change_lines old files = map change_line (changes old files)

-- The line of one change.
abbrev pub IsChangeLine : Line → Type 0
IsChangeLine line = (change : Change) × (line ≡ change_line change)

-- Lines of changes.
abbrev pub AreChangeLines : List Line → Type 0
AreChangeLines [] = Unit {0}
AreChangeLines (line ∷ lines) = IsChangeLine line × AreChangeLines lines
