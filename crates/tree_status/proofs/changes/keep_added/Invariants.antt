use Rattle.std.proofs.Common.{◌≡◌, ℕ, List, take}
use Rattle.tree_status.specs.Changed.{shown, state_at, with_states}
use Rattle.tree_status.specs.Changes.{added_state, paths_of}
use Rattle.tree_status.proofs.changes.keep_added.Given as goal

abbrev pub invariant-loop-file : goal.invariant-loop-file
invariant-loop-file l = (at : List ℕ) → state_at l.states at ≡ with_states (added_state l.fn.old) (paths_of (shown (take l.file-index l.files))) at (state_at l.fn.states at)
