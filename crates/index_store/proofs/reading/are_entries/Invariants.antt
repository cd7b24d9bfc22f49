use Rattle.std.proofs.Common.{◌≡◌, take}
use Rattle.index_store.specs.Indexes.{index_entries}
use Rattle.index_store.proofs.reading.are_entries.Given as goal

abbrev pub invariant-loop-at : goal.invariant-loop-at
invariant-loop-at l = take l.at l.found ≡ index_entries (take l.at l.entries)
