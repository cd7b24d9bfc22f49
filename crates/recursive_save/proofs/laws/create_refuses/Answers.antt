use Rattle.recursive_save.proofs.Made.{create_refused}
use Rattle.recursive_save.proofs.laws.create_refuses.Goals as goal

pub returns : goal.returns
returns c = λ dataset g fault is. create_refused dataset.root dataset.moment dataset.fresh g fault is
