use Rattle.std.proofs.Common.{◌≡◌, take}
use Rattle.index_store.specs.Indexes.{index_entries}
use Rattle.index_store.proofs.texts.entries_of.Given as goal

abbrev pub invariant-loop-entry : goal.invariant-loop-entry
invariant-loop-entry l = l.list.items ≡ index_entries (take l.entry-index l.entries)
