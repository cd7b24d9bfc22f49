use Rattle.file_store.proofs.Effects.{may_append}
use Rattle.file_store.proofs.memory.files.MemFilesFiles.append.Goals as goal

pub returns-clause-steps : goal.returns-clause-steps
returns-clause-steps c = λ _. may_append c.args.place.now c.args.bytes.now _ _ c.in_ok-append.ensures.ok
