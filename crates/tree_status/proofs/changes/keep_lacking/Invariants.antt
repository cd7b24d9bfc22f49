use Rattle.std.proofs.Common.{◌≡◌, ℕ, List, take}
use Rattle.tree_status.specs.Changed.{shown, state_at, with_states}
use Rattle.tree_status.specs.Changes.{paths_of}
use Rattle.tree_status.specs.declared.states.State.TheVariants.{Modified}
use Rattle.tree_status.proofs.changes.keep_lacking.Given as goal

abbrev pub invariant-loop-file : goal.invariant-loop-file
invariant-loop-file l = (at : List ℕ) → state_at l.states at ≡ with_states (λ path. Modified) (paths_of (shown (take l.file-index l.files))) at (state_at l.fn.states at)
