use Rattle.location_log.proofs.Logs.{one_reading}
use Rattle.location_log.proofs.laws.have_one_reading.Goals as goal

pub returns : goal.returns
returns c = one_reading
