use Rattle.std.proofs.Common.{◌≡◌, ◌++◌, ◌∷◌, take}
use Rattle.std.specs.Prelude.{drop, codes}
use Rattle.std.specs.List.{All, flat_map}
use Rattle.git_objects.specs.Ids.{hex_of, IsId}
use Rattle.git_objects.specs.Commits.{parent_line}
use Rattle.git_objects.proofs.commits.Commit.append_links.Given as goal

-- the body so far and the parents that are left make the whole
abbrev pub invariant-loop-parent : goal.invariant-loop-parent
invariant-loop-parent l = record {
  text : l.body.items ++ flat_map parent_line (drop l.parent-index l.parent-items)
      ≡ l.fn.body.items ++ (codes "tree " ++ hex_of l.self.tree.0 ++ 10 ∷ flat_map parent_line l.self.parents.items);
  ids : All (λ parent. IsId parent.0) (take l.parent-index l.parent-items);
}
