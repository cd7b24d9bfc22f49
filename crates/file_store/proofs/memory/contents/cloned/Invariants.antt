use Rattle.std.proofs.Common.{◌≡◌}
use Rattle.std.specs.FinMap.{empty}
use Rattle.file_store.proofs.Laid.{laid}
use Rattle.file_store.proofs.memory.contents.cloned.Given as goal

abbrev pub invariant-loop-place : goal.invariant-loop-place
invariant-loop-place l = laid l.copy l.place-iterator ≡ laid empty l.files.entries
