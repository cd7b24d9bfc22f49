use Rattle.std.proofs.Common.{◌≡◌, ℕ, List, None, map, ap, ◌∙◌}
use Rattle.std.specs.Borrow.{Bor}
use Rattle.std.specs.BTreeMap.{is_at}
use Rattle.std.specs.Map.{lookup}
use Rattle.std.specs.Ordering.{nat_cmp}
use Rattle.std.specs.Cmp.Lexicographic.{slice_cmp}
use Rattle.tree_status.specs.Changed.{shown, state_at, with_states}
use Rattle.tree_status.specs.Changes.{added, added_state, deleted, lacking, paths_of}
use Rattle.tree_status.specs.declared.states.State.{State}
use Rattle.tree_status.specs.declared.states.State.TheVariants.{Deleted, Modified}
use Rattle.tree_status.proofs.ChangedStates.{changes_done, ordered_done}
use Rattle.tree_status.proofs.changes.changes_of.Goals as goal

pub returns-clause-changes : goal.returns-clause-changes
returns-clause-changes c =
    let old = c.args.old.now in
    let files = c.args.files.now in
    let gone_state : List ℕ → State = λ path. Deleted in
    let lacked_state : List ℕ → State = λ path. Modified in
    let gone : shown c.as_slice.result.now ≡ deleted old files = ap shown c.as_slice.ensures.value ∙ c.in_ok-deleted.ensures in
    let lacked : shown c.as_slice-2.result.now ≡ lacking files = ap shown c.as_slice-2.ensures.value ∙ c.in_ok-lacking.ensures in
    let new : shown c.as_slice-3.result.now ≡ added old files = ap shown c.as_slice-3.ensures.value ∙ c.in_ok-added.ensures in
    let none : (at : List ℕ) → state_at c.new-states.result at ≡ None = λ at. ap (λ (kept : List (Bor (List ℕ) × State)). lookup (is_at (λ key. slice_cmp nat_cmp at key.now)) kept) c.new-states.ensures.empty in
    changes_done c.in_order.result c.keep_added.new.states old files (λ at.
    c.in_ok-keep_added.ensures at
    ∙ (λ i. with_states (added_state old) (paths_of (new i)) at ((
    c.in_ok-keep_lacking.ensures at
    ∙ (λ j. with_states lacked_state (paths_of (lacked j)) at ((
    c.in_ok-keep_deleted.ensures at
    ∙ (λ k. with_states gone_state (map (λ entry. entry.path) (gone k)) at (none at k))) j))) i)))
    c.in_order.ensures.values c.in_order.ensures.ordered

pub returns-clause-ordered : goal.returns-clause-ordered
returns-clause-ordered c = ordered_done c.in_order.result c.keep_added.new.states c.in_order.ensures.values c.in_order.ensures.ordered
