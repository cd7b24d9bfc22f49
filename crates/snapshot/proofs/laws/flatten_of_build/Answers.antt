use Rattle.snapshot.proofs.Inverse.{read_back}
use Rattle.snapshot.proofs.laws.flatten_of_build.Goals as goal

pub returns : goal.returns
returns c = read_back
