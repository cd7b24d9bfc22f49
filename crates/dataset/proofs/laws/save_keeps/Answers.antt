use Rattle.dataset.proofs.Commits.{saved}
use Rattle.dataset.proofs.laws.save_keeps.Goals as goal

pub returns : goal.returns
returns c = saved
