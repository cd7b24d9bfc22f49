use Rattle.snapshot.proofs.Descent.{descent}
use Rattle.snapshot.proofs.laws.leaf_in_standing.Goals as goal

pub returns : goal.returns
returns c = descent
