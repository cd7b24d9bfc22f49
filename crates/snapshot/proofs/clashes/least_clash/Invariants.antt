use Rattle.std.proofs.Common.{ℕ, ◌<◌, get_or}
use Rattle.snapshot.specs.Order.{HasBelow}
use Rattle.snapshot.specs.declared.entries.Entry.{Entry}
use Rattle.snapshot.proofs.clashes.least_clash.Given as goal

-- none so far is above another one
abbrev pub invariant-loop-entry : goal.invariant-loop-entry
invariant-loop-entry l = (k : ℕ) (d : Entry) → k < l.entry-index → HasBelow l.entries (get_or l.entries k d).path → ⊥
