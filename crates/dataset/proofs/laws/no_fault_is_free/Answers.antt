use Rattle.dataset.proofs.Saving.{no_fault_free}
use Rattle.dataset.proofs.laws.no_fault_is_free.Goals as goal

pub returns : goal.returns
returns c = no_fault_free
