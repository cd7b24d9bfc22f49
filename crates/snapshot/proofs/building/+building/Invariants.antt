use Rattle.std.proofs.Common.{◌+◌, ◌*◌, length}
use Rattle.snapshot.specs.Builds.{all_seen, weight, BuildsFront}
use Rattle.snapshot.proofs.building.+building.Given as goal

abbrev pub decreases-build_next : goal.decreases-build_next
decreases-build_next l = 2 * weight (all_seen l.rests.now)

abbrev pub decreases-build_dir : goal.decreases-build_dir
decreases-build_dir l = 2 * weight (all_seen l.rests.now) + 1

-- the directory so far
abbrev pub invariant-build_dir-loop-left : goal.invariant-build_dir-loop-left
invariant-build_dir-loop-left l = BuildsFront (all_seen l.rests) (all_seen l.left) l.entries.items l.fn.objects.items l.objects.items

abbrev pub decreases-build_dir-loop-left : goal.decreases-build_dir-loop-left
decreases-build_dir-loop-left l = length l.left
