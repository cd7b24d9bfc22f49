use Rattle.std.proofs.Common.{◌≡◌, ℕ, List, map, take}
use Rattle.tree_status.specs.Changed.{shown, state_at, with_states}
use Rattle.tree_status.specs.declared.states.State.TheVariants.{Deleted}
use Rattle.tree_status.proofs.changes.keep_deleted.Given as goal

abbrev pub invariant-loop-entry : goal.invariant-loop-entry
invariant-loop-entry l = (at : List ℕ) → state_at l.states at ≡ with_states (λ path. Deleted) (map (λ entry. entry.path) (shown (take l.entry-index l.entries))) at (state_at l.fn.states at)
