use Rattle.dataset.proofs.Rows.{same_keeps}
use Rattle.dataset.proofs.laws.same_keeps.Goals as goal

pub returns : goal.returns
returns c = same_keeps
