use Rattle.std.proofs.Common.{[]}
use Rattle.std.specs.Prelude.{drop, ◌↔◌}
use Rattle.index_file.specs.Entries.{AscendFrom}
use Rattle.index_file.proofs.validity.is_index.Given as goal

-- what is left ascends from the last path exactly where the list does
abbrev pub invariant-loop-entry : goal.invariant-loop-entry
invariant-loop-entry l = AscendFrom l.last (drop l.entry-index l.list) ↔ AscendFrom [] l.list
