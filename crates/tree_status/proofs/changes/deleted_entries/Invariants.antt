use Rattle.std.proofs.Common.{◌≡◌, take}
use Rattle.std.specs.List.{filter}
use Rattle.tree_status.specs.Changed.{shown}
use Rattle.tree_status.specs.Changes.{is_gone}
use Rattle.tree_status.proofs.changes.deleted_entries.Given as goal

abbrev pub invariant-loop-entry : goal.invariant-loop-entry
invariant-loop-entry l = shown l.list.items ≡ filter (is_gone l.files) (take l.entry-index l.entry-items)
