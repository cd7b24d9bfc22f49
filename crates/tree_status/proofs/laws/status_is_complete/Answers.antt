use Rattle.tree_status.proofs.Statuses.{status_complete}
use Rattle.tree_status.proofs.laws.status_is_complete.Goals as goal

pub returns : goal.returns
returns c = status_complete
