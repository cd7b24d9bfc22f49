use Rattle.snapshot.proofs.Annexing.{points_once}
use Rattle.snapshot.proofs.laws.pointers_have_one_end.Goals as goal

pub returns : goal.returns
returns c = points_once
