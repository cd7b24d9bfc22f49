use Rattle.dataset.proofs.Refs.{is_done}
use Rattle.dataset.proofs.laws.save_is_sound.Goals as goal

pub returns : goal.returns
returns c = is_done
