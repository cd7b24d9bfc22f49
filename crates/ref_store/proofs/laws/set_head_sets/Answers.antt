use Rattle.ref_store.proofs.Arriving.{head_sets}
use Rattle.ref_store.proofs.laws.set_head_sets.Goals as goal

pub returns : goal.returns
returns c = head_sets
