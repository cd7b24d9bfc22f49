use Rattle.kept_files.proofs.Keeping.{one_way}
use Rattle.kept_files.proofs.laws.kept_is_one.Goals as goal

pub returns : goal.returns
returns c = one_way
