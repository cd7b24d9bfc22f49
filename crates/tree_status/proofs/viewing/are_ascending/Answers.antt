use Rattle.std.proofs.Common.{rules}
use Rattle.std.proofs.lemmas.Fn.{always_returns_same}
use Rattle.tree_status.proofs.PathOrder.{below, ascending_test}
use Rattle.tree_status.proofs.viewing.are_ascending.Goals as goal

pub returns : goal.returns
returns c = ascending_test c.args.paths.now c.is_sorted_by.result (c.is_sorted_by.ensures.cases below (always_returns_same _ _ _ (λ a r q k. search rules)))
