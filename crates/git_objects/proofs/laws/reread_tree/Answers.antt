use Rattle.std.proofs.Common.{List, ℕ, sym, subst}
use Rattle.git_objects.specs.Decoding.{IsTreeText}
use Rattle.git_objects.proofs.Rereading.{tree_reread}
use Rattle.git_objects.proofs.laws.reread_tree.Goals as goal

pub returns : goal.returns
returns c =
    tree_reread c.as_slice.result.now c.args.tree.now.entries.items c.decode.result (subst (λ (z : List ℕ). IsTreeText z c.args.tree.now.entries.items) (sym c.as_slice.ensures.value) c.in_ok-body.ensures) c.decode.ensures
