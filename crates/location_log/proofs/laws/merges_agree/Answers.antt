use Rattle.location_log.proofs.Merging.{merges}
use Rattle.location_log.proofs.laws.merges_agree.Goals as goal

pub returns : goal.returns
returns c = merges
