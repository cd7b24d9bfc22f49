use Rattle.repository.proofs.Holds.{held_is, is_held}
use Rattle.repository.proofs.held.held_agrees.Goals as goal

pub returns : goal.returns
returns c = λ g repo id o. (held_is g repo id o, is_held g repo id o.kind o.body)
