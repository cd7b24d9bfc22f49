use Rattle.dataset.proofs.Moments.{rest_settled}
use Rattle.dataset.proofs.laws.rest_is_settled.Goals as goal

pub returns : goal.returns
returns c = rest_settled
