use Rattle.recursive_save.proofs.Consequences.{every_moment}
use Rattle.recursive_save.proofs.laws.create_remains.Goals as goal

pub returns : goal.returns
returns c = every_moment
