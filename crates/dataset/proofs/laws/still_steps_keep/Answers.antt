use Rattle.dataset.proofs.Steps.{still_steps}
use Rattle.dataset.proofs.laws.still_steps_keep.Goals as goal

pub returns : goal.returns
returns g c = still_steps
