use Rattle.dataset.proofs.Steps.{puts_keep}
use Rattle.dataset.proofs.laws.puts_keep.Goals as goal

pub returns : goal.returns
returns c = puts_keep
