use Rattle.std.proofs.Common.{ap, refl, ◌∙◌, ◌++◌}
use Rattle.acts.proofs.Laws.{seq, fails, exits, starved, same_lines, done}
use Rattle.acts.proofs.Folds.{said_each}
use Rattle.recursive_save.proofs.Saves.{indexes_it, puts_them, sets_it}
use Rattle.recursive_save.proofs.saving.write.Goals as goal

pub returns-in_err-reserve-clause-acts : goal.returns-in_err-reserve-clause-acts
returns-in_err-reserve-clause-acts g c = same_lines c.reserve.ensures.items (exits c.from_residual.ensures.1 starved)

pub returns-in_err-put_all-clause-acts : goal.returns-in_err-put_all-clause-acts
returns-in_err-put_all-clause-acts g c =
    same_lines c.reserve.ensures.items (exits c.from_residual-in_err-put_all.ensures.1 (fails _ (puts_them g.F.Files.tells c.args.root.now c.requires.repo c.as_slice.ensures.value c.in_err-put_all.ensures)))

pub returns-in_err-set_tip-clause-acts : goal.returns-in_err-set_tip-clause-acts
returns-in_err-set_tip-clause-acts g c =
    same_lines c.reserve.ensures.items (exits c.from_residual-in_err-set_tip.ensures.1
    (seq _ (puts_them g.F.Files.tells c.args.root.now c.requires.repo c.as_slice.ensures.value c.in_ok-put_all.ensures) (fails _ (sets_it g.F.Files.tells c.args.root.now c.args.planned.commit.0 c.requires.repo c.in_err-set_tip.ensures))))

pub returns-in_err-keep_index-clause-acts : goal.returns-in_err-keep_index-clause-acts
returns-in_err-keep_index-clause-acts g c =
    same_lines c.reserve.ensures.items (exits c.from_residual-in_err-keep_index.ensures.1
    (seq _ (puts_them g.F.Files.tells c.args.root.now c.requires.repo c.as_slice.ensures.value c.in_ok-put_all.ensures)
    (seq _ (sets_it g.F.Files.tells c.args.root.now c.args.planned.commit.0 c.requires.repo c.in_ok-set_tip.ensures)
    (fails _ (indexes_it g.F.Files.tells c.args.root.now _ refl c.in_err-keep_index.ensures)))))

pub returns-clause-acts : goal.returns-clause-acts
returns-clause-acts g c =
    seq _ (puts_them g.F.Files.tells c.args.root.now c.requires.repo c.as_slice.ensures.value c.in_ok-put_all.ensures)
    (seq _ (sets_it g.F.Files.tells c.args.root.now c.args.planned.commit.0 c.requires.repo c.in_ok-set_tip.ensures)
    (seq _ (indexes_it g.F.Files.tells c.args.root.now _ refl c.in_ok-keep_index.ensures)
    (seq _ (said_each c.args.planned.lines.items (c.in_ok-append.ensures.items ∙ ap (λ l. l ++ c.args.planned.lines.items) c.reserve.ensures.items)) done)))
