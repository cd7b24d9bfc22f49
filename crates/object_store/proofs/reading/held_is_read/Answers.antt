use Rattle.object_store.proofs.Within.{held_read}
use Rattle.object_store.proofs.reading.held_is_read.Goals as goal

pub returns : goal.returns
returns c = held_read
