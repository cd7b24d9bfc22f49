use Rattle.history.proofs.Standing.{name_is_complete}
use Rattle.history.proofs.laws.log_of_name_is_complete.Goals as goal

pub returns : goal.returns
returns c = name_is_complete
