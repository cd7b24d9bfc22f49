use Rattle.std.proofs.Common.{rules}
use Rattle.git_objects.specs.Entries.{sorts_below}
use Rattle.std.proofs.lemmas.Fn.{always_returns_same}
use Rattle.git_objects.proofs.Twins.{ascending_answer}
use Rattle.git_objects.proofs.trees.are_ascending.Goals as goal

pub returns : goal.returns
returns c = ascending_answer c.args.entries.now c.is_sorted_by.result (c.is_sorted_by.ensures.cases sorts_below (always_returns_same _ _ _ (λ a r q k. search rules)))
