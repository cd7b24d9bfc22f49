use Rattle.location_log.proofs.Noted.{noted}
use Rattle.location_log.proofs.laws.notes_count.Goals as goal

pub returns : goal.returns
returns c = noted
