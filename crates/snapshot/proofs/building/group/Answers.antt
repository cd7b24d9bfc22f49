use Rattle.snapshot.specs.Builds.{all_seen}
use Rattle.snapshot.proofs.Trees.{group_ends}
use Rattle.snapshot.proofs.building.group.Goals as goal

pub returns-in_default : goal.returns-in_default
returns-in_default c = group_ends c.args.rests.now c.loop-rest.rest-index _ c.args.name.now (all_seen c.loop-rest.part.items) c.loop-rest-test.true c.loop-rest.invariant c.in_default.ensures
