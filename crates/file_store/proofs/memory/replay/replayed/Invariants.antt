use Rattle.std.proofs.Common.{◌≡◌, take}
use Rattle.file_store.specs.Memory.Calls.{history_of}
use Rattle.file_store.specs.Memory.Moment.{disk_of}
use Rattle.file_store.proofs.memory.replay.replayed.Given as goal

abbrev pub invariant-loop-call : goal.invariant-loop-call
invariant-loop-call l = disk_of l.moment ≡ (history_of l.first (take l.call-index l.calls)).latest
