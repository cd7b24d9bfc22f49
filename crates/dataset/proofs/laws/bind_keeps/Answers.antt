use Rattle.dataset.proofs.Steps.{bind_keeps}
use Rattle.dataset.proofs.laws.bind_keeps.Goals as goal

pub returns : goal.returns
returns g c = bind_keeps
