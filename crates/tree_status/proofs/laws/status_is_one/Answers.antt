use Rattle.tree_status.proofs.Statuses.{status_once}
use Rattle.tree_status.proofs.laws.status_is_one.Goals as goal

pub returns : goal.returns
returns c = status_once
