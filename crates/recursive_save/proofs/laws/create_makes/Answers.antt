use Rattle.recursive_save.proofs.Done.{made_so}
use Rattle.recursive_save.proofs.laws.create_makes.Goals as goal

pub returns : goal.returns
returns c = made_so
