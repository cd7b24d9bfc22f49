use Rattle.dataset.proofs.Saving.{flat_save}
use Rattle.dataset.proofs.laws.flat_save_is_save.Goals as goal

pub returns : goal.returns
returns c = flat_save
