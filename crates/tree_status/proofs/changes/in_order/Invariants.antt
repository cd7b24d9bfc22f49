use Rattle.std.proofs.Common.{◌≡◌, ◌++◌}
use Rattle.tree_status.specs.Changed.{kept_changes}
use Rattle.tree_status.proofs.changes.in_order.Given as goal

abbrev pub invariant-loop-path : goal.invariant-loop-path
invariant-loop-path l = l.list.items ++ kept_changes l.path-iterator ≡ kept_changes l.fn.states.entries
