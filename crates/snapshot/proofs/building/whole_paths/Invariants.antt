use Rattle.std.proofs.Common.{◌≡◌, take}
use Rattle.snapshot.specs.Builds.{all_seen}
use Rattle.snapshot.proofs.building.whole_paths.Given as goal

abbrev pub invariant-loop-entry : goal.invariant-loop-entry
invariant-loop-entry l = all_seen l.rests.items ≡ take l.entry-index l.entries
