use Rattle.dataset.proofs.Setting.{tip_keeps}
use Rattle.dataset.proofs.laws.tip_keeps.Goals as goal

pub returns : goal.returns
returns c = tip_keeps
