use Rattle.dataset.proofs.Readable.{sound_is_readable}
use Rattle.dataset.proofs.laws.sound_is_readable.Goals as goal

pub returns : goal.returns
returns c = sound_is_readable
