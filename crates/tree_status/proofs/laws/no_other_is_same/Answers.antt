use Rattle.tree_status.proofs.ChangeLaws.{other_unless_same}
use Rattle.tree_status.proofs.laws.no_other_is_same.Goals as goal

pub returns : goal.returns
returns c = other_unless_same
