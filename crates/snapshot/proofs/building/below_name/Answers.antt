use Rattle.snapshot.proofs.Trees.{below_cut}
use Rattle.snapshot.proofs.building.below_name.Goals as goal

pub returns : goal.returns
returns c = below_cut c.args.path.now c.args.name.now c.in_ok-rest.rest.now c.without_front-2.result c.in_ok-rest.ensures c.without_front-2.ensures
