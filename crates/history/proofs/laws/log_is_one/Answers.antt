use Rattle.history.proofs.Once.{ends_once}
use Rattle.history.proofs.laws.log_is_one.Goals as goal

pub returns : goal.returns
returns c = ends_once c.resolves_once.ensures c.texts_have_one_reading.ensures
