use Rattle.dataset.proofs.Putting.{some_intact}
use Rattle.dataset.proofs.laws.some_are_intact.Goals as goal

pub returns : goal.returns
returns c = some_intact
