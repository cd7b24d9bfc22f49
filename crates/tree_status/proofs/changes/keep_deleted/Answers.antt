use Rattle.std.proofs.Common.{◌∷◌, ◌++◌, [], ℕ, List, map, take, ap, ◌∙◌, sym, arith}
use Rattle.std.proofs.lemmas.Map.Text.{btree_map_updates_str}
use Rattle.snapshot.specs.declared.entries.Entry.{Entry}
use Rattle.tree_status.specs.Changed.{shown, state_at, with_states}
use Rattle.tree_status.specs.declared.states.State.{State}
use Rattle.tree_status.specs.declared.states.State.TheVariants.{Deleted}
use Rattle.tree_status.proofs.ChangedFiles.{shown_more}
use Rattle.tree_status.proofs.ChangedStates.{states_more}
use Rattle.tree_status.proofs.changes.keep_deleted.Goals as goal

pub loop-entry-preserved : goal.loop-entry-preserved
loop-entry-preserved c = λ at.
    let xs = c.args.entries.now in
    let i = c.loop-entry.entry-index in
    let before = state_at c.args.states.now at in
    let state_of : List ℕ → State = λ path. Deleted in
    let path : List ℕ = c.as_str.result.now in
    let paths : List (List ℕ) = map (λ (x : Entry). x.path) (shown (take i xs)) in
    states_more state_of paths path at before (state_at c.loop-entry.states at) (state_at c.insert.new.self at)
    (btree_map_updates_str path c.loop-entry.states c.insert.new.self _ c.in_ok-insert.ensures.updates at)
    (c.loop-entry.invariant at)
    ∙ ap (λ (p : List ℕ). with_states state_of (paths ++ p ∷ []) at before) c.as_str.ensures.value
    ∙ ap (λ (all : List (List ℕ)). with_states state_of all at before) (sym (shown_more (λ (x : Entry). x.path) xs i c.entry-item.result (omega arith) c.entry-item.is))
