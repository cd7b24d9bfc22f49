use Rattle.std.proofs.Common.{◌≡◌, drop}
use Rattle.tree_status.specs.Looks.{pin_fault}
use Rattle.tree_status.proofs.viewing.pin_refusal.Given as goal

-- no pin so far
abbrev pub invariant-loop-entry : goal.invariant-loop-entry
invariant-loop-entry l = pin_fault (drop l.entry-index l.entry-items) ≡ pin_fault l.fn.snapshot
