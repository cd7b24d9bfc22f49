use Rattle.snapshot.proofs.Inverse.{one_end}
use Rattle.snapshot.proofs.laws.readings_have_one_end.Goals as goal

pub returns : goal.returns
returns c = one_end
