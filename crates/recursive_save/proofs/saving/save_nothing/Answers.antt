use Rattle.std.proofs.Common.{[], ◌∷◌, ◌++◌, ◌∙◌, append-nil, sym}
use Rattle.acts.proofs.As.{as_exits, as_same_lines}
use Rattle.recursive_save.proofs.Saves.{indexes_it, is_clean, not_indexed, of_list, says_then}
use Rattle.recursive_save.proofs.saving.save_nothing.Goals as goal

pub returns-in_err-keep_index-clause-acts : goal.returns-in_err-keep_index-clause-acts
returns-in_err-keep_index-clause-acts g c =
    let tells = g.F.Files.tells in
    let root = c.args.root.now in
    as_same_lines c.reserve.ensures.items (as_exits c.from_residual-in_err-keep_index.ensures.1
    (is_clean tells root c.args.wish.now c.args.view.now (g.F.Files.drive c.args.files.now) c.requires.looked c.requires.same (of_list c.old.ensures.value c.in_ok-indexed.ensures)
    (not_indexed tells root _ (indexes_it tells root _ c.old-2.ensures.value c.in_err-keep_index.ensures))))

pub returns-clause-says : goal.returns-clause-says
returns-clause-says g c =
    ([], tt, c.in_ok-push.ensures.items ∙ (λ i. (c.reserve.ensures.items ∙ sym (append-nil c.args.lines.now.items)) i ++ c.in_ok-line.ensures i ∷ []))

pub returns-clause-acts : goal.returns-clause-acts
returns-clause-acts g c =
    let tells = g.F.Files.tells in
    let root = c.args.root.now in
    is_clean tells root c.args.wish.now c.args.view.now (g.F.Files.drive c.args.files.now) c.requires.looked c.requires.same (of_list c.old.ensures.value c.in_ok-indexed.ensures)
    (says_then tells root _ (indexes_it tells root _ c.old-2.ensures.value c.in_ok-keep_index.ensures) (c.in_ok-push.ensures.items ∙ (λ i. c.reserve.ensures.items i ++ c.in_ok-line.ensures i ∷ [])))
