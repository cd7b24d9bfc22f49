use Rattle.dataset.proofs.Commits.{new_commit_whole}
use Rattle.dataset.proofs.laws.new_commit_is_whole.Goals as goal

pub returns : goal.returns
returns c = λ repo dir fields body g new. new_commit_whole repo g dir fields body new
