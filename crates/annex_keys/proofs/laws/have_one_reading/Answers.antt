use Rattle.annex_keys.proofs.Readings.{one_reading}
use Rattle.annex_keys.proofs.laws.have_one_reading.Goals as goal

pub returns : goal.returns
returns c = one_reading
