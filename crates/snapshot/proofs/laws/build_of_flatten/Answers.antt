use Rattle.snapshot.proofs.Inverse.{built_again}
use Rattle.snapshot.proofs.laws.build_of_flatten.Goals as goal

pub returns : goal.returns
returns c = built_again
