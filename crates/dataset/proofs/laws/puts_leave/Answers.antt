use Rattle.dataset.proofs.Steps.{puts_leave}
use Rattle.dataset.proofs.laws.puts_leave.Goals as goal

pub returns : goal.returns
returns c = puts_leave
