use Rattle.dataset.proofs.Watching.{empty_sound}
use Rattle.dataset.proofs.laws.empty_is_sound.Goals as goal

pub returns : goal.returns
returns c = empty_sound
