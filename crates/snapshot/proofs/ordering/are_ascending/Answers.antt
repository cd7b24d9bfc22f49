use Rattle.std.proofs.Common.{rules}
use Rattle.std.proofs.lemmas.Fn.{always_returns_same}
use Rattle.snapshot.proofs.Ordered.{below, ascending_answer}
use Rattle.snapshot.proofs.ordering.are_ascending.Goals as goal

pub returns : goal.returns
returns c = ascending_answer c.args.entries.now c.is_sorted_by.result (c.is_sorted_by.ensures.cases below (always_returns_same _ _ _ (λ a r q k. search rules)))
