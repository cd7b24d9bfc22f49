use Rattle.recursive_save.proofs.SaveKeeps.{save_sound}
use Rattle.recursive_save.proofs.laws.save_keeps_sound.Goals as goal

pub returns : goal.returns
returns c = save_sound
