use Rattle.std.proofs.Common.{rules}
use Rattle.std.proofs.lemmas.Fn.{always_returns_same}
use Rattle.tree_status.proofs.KeptBefore.{order_by, key_found, no_key_found}
use Rattle.tree_status.proofs.keeping.find_key.Goals as goal

pub returns-in-Ok : goal.returns-in-Ok
returns-in-Ok c = key_found c.args.pointers.now c.args.path.now c.in-Ok.at c.index-pointers-at.result c.requires c.in-Ok.ensures.bound (c.in-Ok.ensures.position (order_by c.args.path.now) (always_returns_same _ _ _ (λ a r q k. search rules)) c.index-pointers-at.result)

pub returns-in-Err : goal.returns-in-Err
returns-in-Err c = no_key_found c.args.pointers.now c.args.path.now c.in-Err.field-0 c.requires (c.in-Err.ensures.position (order_by c.args.path.now) (always_returns_same _ _ _ (λ a r q k. search rules)))
