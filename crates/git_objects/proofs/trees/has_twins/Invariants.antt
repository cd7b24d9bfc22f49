use Rattle.std.proofs.Common.{◌≡◌}
use Rattle.std.specs.Prelude.{drop}
use Rattle.std.specs.List.{list_any}
use Rattle.git_objects.specs.Sorted.{is_twin, has_twins}
use Rattle.git_objects.proofs.trees.has_twins.Given as goal

-- a twin is among the entries that are left, or there is none
abbrev pub invariant-loop-entry : goal.invariant-loop-entry
invariant-loop-entry l = list_any (is_twin l.entries) (drop l.entry-index l.entries) ≡ has_twins l.entries
