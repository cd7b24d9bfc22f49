-- Calls that only read, as acts.
use Rattle.std.proofs.Common.{Bool, Err}
use Rattle.file_store.specs.All.{Counts, Drive, ReadFails, has_failed, trouble_of}
use Rattle.file_store.specs.declared.errors.FileErr.{FileErr}
use Rattle.faults.specs.declared.faults.Fault.{Fault}
use Rattle.file_store.specs.declared.errors.FileErr.TheVariants.{Failed, Blocked, NoMemory}
use Rattle.acts.specs.Acts.{Step}
use Rattle.acts.specs.Ends.{ActsQuietly}
use Rattle.acts.proofs.Laws.{failed_early, starved_early}

pub read_fails : {V : Type 0} {may : Fault → Type 0} {tells : Bool} {f : Step V} {d0 d1 : Drive} (e : FileErr) → Counts (has_failed {V = V} (Err e)) d0.faults d1.faults → ReadFails tells d0 d1 e → ActsQuietly may tells f d0 d1 (Err (trouble_of e))
read_fails Failed rose was = failed_early rose was
read_fails (Blocked at) same was = absurd was
read_fails NoMemory same was = starved_early same was
