use Rattle.recursive_save.proofs.OneAct.{one_act}
use Rattle.recursive_save.proofs.laws.save_is_one.Goals as goal

pub returns : goal.returns
returns c = one_act
