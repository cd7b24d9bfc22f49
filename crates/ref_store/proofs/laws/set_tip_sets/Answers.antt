use Rattle.ref_store.proofs.Arriving.{tip_sets}
use Rattle.ref_store.proofs.laws.set_tip_sets.Goals as goal

pub returns : goal.returns
returns c = tip_sets
