use Rattle.snapshot.proofs.Annexing.{own_keys}
use Rattle.snapshot.proofs.laws.keys_are_of_leaves.Goals as goal

pub returns : goal.returns
returns c = own_keys
