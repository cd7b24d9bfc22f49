use Rattle.std.proofs.Common.{◌∙◌}
use Rattle.recursive_save.proofs.FirstFacts.{nothing_is_extra}
use Rattle.recursive_save.proofs.first.commit_body.Goals as goal

pub invariant_of-commit : goal.invariant_of-commit
invariant_of-commit c = record { valid = rw (c.new-3.ensures ∙ c.new-2.ensures.items) nothing_is_extra }
