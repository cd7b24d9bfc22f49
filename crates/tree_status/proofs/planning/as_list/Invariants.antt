use Rattle.std.proofs.Common.{◌≡◌, ◌++◌}
use Rattle.file_store.specs.All.{as_items}
use Rattle.tree_status.proofs.planning.as_list.Given as goal

abbrev pub invariant-loop-key : goal.invariant-loop-key
invariant-loop-key l = l.list.items ++ as_items l.key-iterator ≡ as_items l.fn.tasks.entries
