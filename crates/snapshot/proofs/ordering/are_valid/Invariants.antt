use Rattle.std.proofs.Common.{take}
use Rattle.snapshot.specs.Order.{Each, IsValidPath}
use Rattle.snapshot.proofs.ordering.are_valid.Given as goal

-- the paths so far are valid
abbrev pub invariant-loop-entry : goal.invariant-loop-entry
invariant-loop-entry l = Each (λ e. IsValidPath e.path) (take l.entry-index l.entries)
