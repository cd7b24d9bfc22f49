use Rattle.dataset.proofs.Putting.{objects_keep}
use Rattle.dataset.proofs.laws.objects_keep.Goals as goal

pub returns : goal.returns
returns c = objects_keep
