use Rattle.std.proofs.Common.{◌≡◌, ◌++◌, ◌∷◌, [], take}
use Rattle.places.specs.All.{slash}
use Rattle.snapshot.specs.Builds.{all_seen, all_below}
use Rattle.snapshot.proofs.building.group.Given as goal

-- so far each lies in the directory
abbrev pub invariant-loop-rest : goal.invariant-loop-rest
invariant-loop-rest l = all_seen (take l.rest-index l.rests) ≡ all_below (l.name ++ slash ∷ []) (all_seen l.part.items)
