use Rattle.history.proofs.Complete.{is_complete}
use Rattle.history.proofs.laws.log_is_complete.Goals as goal

pub returns : goal.returns
returns c = is_complete
