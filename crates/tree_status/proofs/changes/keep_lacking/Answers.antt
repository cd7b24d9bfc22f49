use Rattle.std.proofs.Common.{◌∷◌, ◌++◌, [], ℕ, List, map, take, ap, ◌∙◌, sym, arith}
use Rattle.std.proofs.lemmas.Map.Text.{btree_map_updates_str}
use Rattle.tree_status.specs.Changed.{shown, state_at, with_states}
use Rattle.tree_status.specs.declared.found.WorkingFile.{WorkingFile}
use Rattle.tree_status.specs.declared.states.State.{State}
use Rattle.tree_status.specs.declared.states.State.TheVariants.{Modified}
use Rattle.tree_status.proofs.ChangedFiles.{shown_more}
use Rattle.tree_status.proofs.ChangedStates.{states_more}
use Rattle.tree_status.proofs.changes.keep_lacking.Goals as goal

pub loop-file-preserved : goal.loop-file-preserved
loop-file-preserved c = λ at.
    let xs = c.args.files.now in
    let i = c.loop-file.file-index in
    let before = state_at c.args.states.now at in
    let state_of : List ℕ → State = λ path. Modified in
    let path : List ℕ = c.as_str.result.now in
    let paths : List (List ℕ) = map (λ (x : WorkingFile). x.path) (shown (take i xs)) in
    states_more state_of paths path at before (state_at c.loop-file.states at) (state_at c.insert.new.self at)
    (btree_map_updates_str path c.loop-file.states c.insert.new.self _ c.in_ok-insert.ensures.updates at)
    (c.loop-file.invariant at)
    ∙ ap (λ (p : List ℕ). with_states state_of (paths ++ p ∷ []) at before) c.as_str.ensures.value
    ∙ ap (λ (all : List (List ℕ)). with_states state_of all at before) (sym (shown_more (λ (x : WorkingFile). x.path) xs i c.file-item.result (omega arith) c.file-item.is))
