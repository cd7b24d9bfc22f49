use Rattle.dataset.proofs.Leading.{branch_keeps}
use Rattle.dataset.proofs.laws.branch_keeps.Goals as goal

pub returns : goal.returns
returns c = branch_keeps
