use Rattle.ref_store.proofs.Keeping.{set_keeps}
use Rattle.ref_store.proofs.laws.set_tip_keeps.Goals as goal

pub returns : goal.returns
returns c = set_keeps
