use Rattle.std.proofs.Common.{rules, ◌<◌, length, sym}
use Rattle.recursive_save.proofs.Colliding.{goes_on, stops_there}
use Rattle.recursive_save.proofs.collisions.collision.Goals as goal

pub returns-then-not-is_same : goal.returns-then-not-is_same
returns-then-not-is_same c =
    let within : c.loop-i.i < length c.args.objects.now = search rules in
    stops_there c.args.objects.now within c.index-objects-i.is c.index-objects-i-in-loop-i.is c.id.ensures c.loop-i.invariant c.in_ok-first.ensures c.index-objects-first.is (sym c.if-not-is_same.ensures)

pub loop-i-preserved : goal.loop-i-preserved
loop-i-preserved c =
    let within : c.loop-i.i < length c.args.objects.now = search rules in
    goes_on c.args.objects.now within c.index-objects-i.is c.index-objects-i-in-loop-i.is c.id.ensures c.loop-i.invariant c.in_ok-first.ensures c.index-objects-first.is (sym c.if-not-is_same.ensures)
