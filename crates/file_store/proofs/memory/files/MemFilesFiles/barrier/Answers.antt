use Rattle.std.proofs.Common.{refl}
use Rattle.file_store.specs.Disk.{IsSynced}
use Rattle.file_store.proofs.Effects.{may_step}
use Rattle.file_store.proofs.memory.files.MemFilesFiles.barrier.Goals as goal

pub returns-clause-steps : goal.returns-clause-steps
returns-clause-steps c = λ _. may_step IsSynced _ _ _ c.in_ok-barrier.ensures.ok refl
