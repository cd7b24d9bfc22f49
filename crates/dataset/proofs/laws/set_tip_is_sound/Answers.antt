use Rattle.dataset.proofs.Refs.{tip_set}
use Rattle.dataset.proofs.laws.set_tip_is_sound.Goals as goal

pub returns : goal.returns
returns c = tip_set
