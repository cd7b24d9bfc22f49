use Rattle.dataset.proofs.Keeping.{logs_keep}
use Rattle.dataset.proofs.laws.logs_keep.Goals as goal

pub returns : goal.returns
returns c = logs_keep
