use Rattle.dataset.proofs.Parents.{ancestors_whole}
use Rattle.dataset.proofs.Commits.{tree_full, extended}
use Rattle.dataset.proofs.laws.whole_means.Goals as goal

pub returns : goal.returns
returns c = record { ancestors = ancestors_whole; tree = tree_full; extend = extended }
