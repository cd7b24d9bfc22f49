-- How the turn of a call of files in memory ends it: whether it fails, and what it leaves.
use Rattle.std.specs.Prelude.{◌≡◌, ◌≢◌, ◌↔◌, Result, Err, IsErr}
use Rattle.file_store.specs.Disk.{History}
use Rattle.file_store.specs.Memory.Disk.{history_in}
use Rattle.file_store.specs.Causes.{has_failed}
use Rattle.file_store.specs.Memory.Plan.{counted, turn_of}
use Rattle.file_store.specs.declared.errors.FileErr.{FileErr}
use Rattle.file_store.specs.declared.errors.FileErr.TheVariants.{Failed}
use Rattle.file_store.specs.declared.memory.files.MemFiles.{MemFiles}
use Rattle.file_store.specs.declared.memory.plan.Turn.TheVariants.{Works, FailsBefore, FailsAfter}

-- A call that only reads is counted, with its fault where it fails, and the disk is as it was. It
-- fails exactly where it is to fail.
pub record ReadsByTurn {T : Type 0} (old new : MemFiles) (result : Result T FileErr) : Type 0 where
  pub plan : new.plan ≡ counted (has_failed result) old.plan
  pub disk : new.disk ≡ old.disk
  pub fails : (result ≡ Err Failed) ↔ (turn_of old.plan ≢ Works)

-- A call that changes the disk is counted, with its fault where it fails. Where it is to work, it
-- doesn't fail. Where it is to fail without effect, it fails and the disk is as it was. Where it is
-- to fail after its effect, it isn't Ok; if it fails, its effect is done.
pub record ChangesByTurn {T : Type 0} (effect : History → History) (old new : MemFiles)
    (result : Result T FileErr) : Type 0 where
  pub plan : new.plan ≡ counted (has_failed result) old.plan
  pub works : turn_of old.plan ≡ Works → result ≢ Err Failed
  pub before : turn_of old.plan ≡ FailsBefore → (result ≡ Err Failed) × (new.disk ≡ old.disk)
  pub after : turn_of old.plan ≡ FailsAfter → IsErr result
  pub done : turn_of old.plan ≡ FailsAfter → result ≡ Err Failed
      → history_in new.disk ≡ effect (history_in old.disk)
