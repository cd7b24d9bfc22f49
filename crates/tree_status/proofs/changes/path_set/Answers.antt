use Rattle.std.proofs.Common.{◌∷◌, ◌++◌, [], ℕ, List, take, ap, ◌∙◌, sym, arith}
use Rattle.tree_status.specs.Changes.{is_among, paths_of}
use Rattle.tree_status.proofs.ChangedFiles.{paths_more}
use Rattle.tree_status.proofs.ChangedStates.{set_more}
use Rattle.tree_status.proofs.changes.path_set.Goals as goal

pub loop-file-preserved : goal.loop-file-preserved
loop-file-preserved c = λ path.
    let files = c.args.files.now in
    let i = c.loop-file.file-index in
    set_more (paths_of (take i files)) c.as_str.result.now path _ _ (c.in_ok-insert.ensures.updates.0 (record { ref_ptr = (0, 0); now = path })) (c.loop-file.invariant path)
    ∙ ap (λ (p : List ℕ). is_among (paths_of (take i files) ++ p ∷ []) path) c.as_str.ensures.value
    ∙ ap (λ (paths : List (List ℕ)). is_among paths path) (sym (paths_more files i c.file-item.result (omega arith) c.file-item.is))
