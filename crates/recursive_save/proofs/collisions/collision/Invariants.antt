use Rattle.recursive_save.proofs.Colliding.{AreFirsts}
use Rattle.recursive_save.proofs.collisions.collision.Given as goal

-- the first objects are known, and those so far don't collide
abbrev pub invariant-loop-i : goal.invariant-loop-i
invariant-loop-i l = AreFirsts l.objects l.i l.firsts
