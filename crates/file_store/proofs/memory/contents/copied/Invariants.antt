use Rattle.std.proofs.Common.{◌≡◌, ◌++◌}
use Rattle.file_store.specs.Memory.Lists.{plain}
use Rattle.file_store.proofs.memory.contents.copied.Given as goal

abbrev pub invariant-loop-place : goal.invariant-loop-place
invariant-loop-place l = plain l.list.items ++ plain l.place-iterator ≡ plain l.files.entries
