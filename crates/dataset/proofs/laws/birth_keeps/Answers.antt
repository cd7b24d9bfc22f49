use Rattle.dataset.proofs.Birth.{born}
use Rattle.dataset.proofs.laws.birth_keeps.Goals as goal

pub returns : goal.returns
returns c = born
