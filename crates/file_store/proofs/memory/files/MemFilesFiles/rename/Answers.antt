use Rattle.std.proofs.Common.{refl}
use Rattle.file_store.specs.Disk.{IsRenamed}
use Rattle.file_store.proofs.Effects.{may_step}
use Rattle.file_store.proofs.memory.files.MemFilesFiles.rename.Goals as goal

pub returns-in_err-answer-2-clause-steps : goal.returns-in_err-answer-2-clause-steps
returns-in_err-answer-2-clause-steps c = λ _. may_step (IsRenamed c.args.from.now c.args.to.now) _ _ _ c.in_ok-rename.ensures.ok refl

pub returns-clause-steps : goal.returns-clause-steps
returns-clause-steps c = λ _. may_step (IsRenamed c.args.from.now c.args.to.now) _ _ _ c.in_ok-rename.ensures.ok refl
