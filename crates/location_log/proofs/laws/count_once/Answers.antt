use Rattle.location_log.proofs.Merging.{counted_once}
use Rattle.location_log.proofs.laws.count_once.Goals as goal

pub returns : goal.returns
returns c = counted_once
