use Rattle.recursive_save.proofs.Complete.{is_complete}
use Rattle.recursive_save.proofs.laws.save_is_complete.Goals as goal

pub returns : goal.returns
returns c = is_complete
