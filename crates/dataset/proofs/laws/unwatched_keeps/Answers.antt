use Rattle.dataset.proofs.Rows.{unwatched_keeps}
use Rattle.dataset.proofs.laws.unwatched_keeps.Goals as goal

pub returns : goal.returns
returns c = unwatched_keeps
