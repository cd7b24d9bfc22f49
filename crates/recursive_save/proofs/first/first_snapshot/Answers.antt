use Rattle.std.proofs.Common.{◌∙◌, ◌++◌, [], ◌∷◌, false, sym, subst}
use Rattle.snapshot.specs.All.{IsOrdered}
use Rattle.snapshot.specs.declared.entries.Leaf.TheVariants.{Git}
use Rattle.recursive_save.proofs.FirstPaths.{first_ordered}
use Rattle.recursive_save.proofs.first.first_snapshot.Goals as goal

pub of_ordered-requires : goal.of_ordered-requires
of_ordered-requires c =
    let id = c.object_id-id.result in
    subst IsOrdered (sym (c.in_ok-push.ensures.items ∙ (λ i. c.new-entries.ensures.items i ++ record { path = c.in_ok-text.ensures i; leaf = Git id false } ∷ []))) (first_ordered id)
