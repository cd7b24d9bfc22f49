use Rattle.dataset.proofs.Keeping.{contents_keep}
use Rattle.dataset.proofs.laws.contents_keep.Goals as goal

pub returns : goal.returns
returns c = contents_keep
