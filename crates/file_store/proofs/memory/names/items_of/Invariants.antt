use Rattle.std.proofs.Common.{◌≡◌, ◌++◌}
use Rattle.file_store.specs.Named.{as_items}
use Rattle.file_store.proofs.memory.names.items_of.Given as goal

abbrev pub invariant-loop-name : goal.invariant-loop-name
invariant-loop-name l = l.items.items ++ as_items l.name-iterator ≡ as_items l.fn.kinds.entries
