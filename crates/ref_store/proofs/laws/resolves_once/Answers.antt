use Rattle.ref_store.proofs.Once.{resolves_once}
use Rattle.ref_store.proofs.laws.resolves_once.Goals as goal

pub returns : goal.returns
returns c = resolves_once c.texts_have_one_reading.ensures
