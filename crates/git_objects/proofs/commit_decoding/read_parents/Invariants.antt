use Rattle.std.proofs.Common.{◌≡◌, ◌++◌, length}
use Rattle.std.specs.List.{All, flat_map}
use Rattle.git_objects.specs.Commits.{parent_line}
use Rattle.git_objects.specs.Ids.{IsId}
use Rattle.git_objects.proofs.commit_decoding.read_parents.Given as goal

-- the lines of the parents so far and the rest make the text
abbrev pub invariant-loop-parent : goal.invariant-loop-parent
invariant-loop-parent l = record {
  ids : All (λ parent. IsId parent.0) l.parents.items;
  printed : l.text ≡ flat_map parent_line l.parents.items ++ l.rest;
}

abbrev pub decreases-loop-parent : goal.decreases-loop-parent
decreases-loop-parent l = length l.rest
