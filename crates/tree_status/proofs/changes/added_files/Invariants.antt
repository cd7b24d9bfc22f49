use Rattle.std.proofs.Common.{◌≡◌, take}
use Rattle.std.specs.List.{filter}
use Rattle.tree_status.specs.Changed.{shown}
use Rattle.tree_status.specs.Changes.{is_new}
use Rattle.tree_status.proofs.changes.added_files.Given as goal

abbrev pub invariant-loop-file : goal.invariant-loop-file
invariant-loop-file l = shown l.list.items ≡ filter (is_new l.old) (take l.file-index l.files)
