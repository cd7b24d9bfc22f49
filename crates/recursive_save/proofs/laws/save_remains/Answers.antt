use Rattle.recursive_save.proofs.SaveLeft.{each_moment}
use Rattle.recursive_save.proofs.laws.save_remains.Goals as goal

pub returns : goal.returns
returns c = each_moment
