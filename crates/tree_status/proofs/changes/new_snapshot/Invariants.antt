use Rattle.std.proofs.Common.{◌≡◌, map, take}
use Rattle.tree_status.specs.Changes.{new_entry}
use Rattle.tree_status.proofs.changes.new_snapshot.Given as goal

abbrev pub invariant-loop-file : goal.invariant-loop-file
invariant-loop-file l = l.entries.items ≡ map (new_entry l.old) (take l.file-index l.files)
