use Rattle.dataset.proofs.Rows.{one_keeps}
use Rattle.dataset.proofs.laws.one_file_keeps.Goals as goal

pub returns : goal.returns
returns c = one_keeps
