use Rattle.file_store.proofs.Effects.{may_write}
use Rattle.file_store.proofs.memory.files.MemFilesFiles.write.Goals as goal

pub returns-clause-steps : goal.returns-clause-steps
returns-clause-steps c = λ _. may_write c.args.place.now c.args.bytes.now _ _ c.in_ok-write.ensures.ok
