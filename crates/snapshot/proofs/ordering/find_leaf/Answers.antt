use Rattle.std.proofs.Common.{rules}
use Rattle.std.proofs.lemmas.Fn.{always_returns_same}
use Rattle.snapshot.proofs.Ordered.{order_by, leaf_found, none_found}
use Rattle.snapshot.proofs.ordering.find_leaf.Goals as goal

pub returns-in-Ok : goal.returns-in-Ok
returns-in-Ok c = leaf_found c.args.entries.now c.args.path.now c.in-Ok.at c.index-entries-at.result c.in-Ok.ensures.bound (c.in-Ok.ensures.position (order_by c.args.path.now) (always_returns_same _ _ _ (λ a r q k. search rules)) c.index-entries-at.result)

pub returns-in-Err : goal.returns-in-Err
returns-in-Err c = none_found c.args.entries.now c.args.path.now c.in-Err.field-0 c.requires (c.in-Err.ensures.position (order_by c.args.path.now) (always_returns_same _ _ _ (λ a r q k. search rules)))
