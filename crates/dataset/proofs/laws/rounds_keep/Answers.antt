use Rattle.dataset.proofs.Rows.{rounds_keep}
use Rattle.dataset.proofs.laws.rounds_keep.Goals as goal

pub returns : goal.returns
returns c = rounds_keep
