use Rattle.dataset.proofs.Putting.{put_held}
use Rattle.dataset.proofs.laws.put_are_held.Goals as goal

pub returns : goal.returns
returns c = put_held
