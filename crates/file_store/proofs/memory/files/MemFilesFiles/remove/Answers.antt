use Rattle.std.proofs.Common.{refl}
use Rattle.file_store.specs.Disk.{IsRemoved}
use Rattle.file_store.proofs.Effects.{may_step}
use Rattle.file_store.proofs.memory.files.MemFilesFiles.remove.Goals as goal

pub returns-in_err-answer-2-clause-steps : goal.returns-in_err-answer-2-clause-steps
returns-in_err-answer-2-clause-steps c = λ _. may_step (IsRemoved c.args.place.now) _ _ _ c.in_ok-remove.ensures.ok refl

pub returns-clause-steps : goal.returns-clause-steps
returns-clause-steps c = λ _. may_step (IsRemoved c.args.place.now) _ _ _ c.in_ok-remove.ensures.ok refl
