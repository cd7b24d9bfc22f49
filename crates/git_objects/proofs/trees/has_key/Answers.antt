use Rattle.std.proofs.Common.{rules, ◌∙◌}
use Rattle.std.proofs.lemmas.Fn.{always_returns_same}
use Rattle.git_objects.proofs.Search.{key_found, order_by}
use Rattle.git_objects.proofs.trees.has_key.Goals as goal

pub returns : goal.returns
returns c =
    c.is_ok.ensures.value ∙ key_found c.args.entries.now c.args.key.now c.binary_search_by.result c.requires c.binary_search_by.ensures.bound (c.binary_search_by.ensures.position (order_by c.args.key.now) (always_returns_same _ _ _ (λ a r q k. search rules)))
