use Rattle.std.proofs.Common.{rules}
use Rattle.std.specs.Ordering.{is_lt}
use Rattle.std.proofs.lemmas.List.Sorted.{answers_always}
use Rattle.location_log.specs.Plain.{PlainLine}
use Rattle.location_log.specs.Steps.{line_cmp}
use Rattle.location_log.proofs.Orders.{line_weak}
use Rattle.location_log.proofs.newest.sort_lines.Goals as goal

pub returns-clause-sorted : goal.returns-clause-sorted
returns-clause-sorted c =
    c.sort_unstable_by.ensures.sorted (λ (x y : PlainLine). is_lt (line_cmp x y)) line_weak (answers_always _ _ _ (λ f a r g called. search rules))
