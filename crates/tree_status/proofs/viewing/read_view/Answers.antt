use Rattle.acts.proofs.Reading.{read_exits}
use Rattle.tree_status.proofs.Views.{files_fail, keeping_fails, tip_fails, view_gives}
use Rattle.tree_status.proofs.viewing.read_view.Goals as goal

pub returns-in_err-parent-clause-reads : goal.returns-in_err-parent-clause-reads
returns-in_err-parent-clause-reads g c =
    read_exits c.from_residual.ensures.1 (tip_fails g.F.Files.tells c.args.root.now c.args.to_git (rw c.requires.repo at c.in_err-parent.ensures))

pub returns-in_err-by-clause-reads : goal.returns-in_err-by-clause-reads
returns-in_err-by-clause-reads g c =
    let tip = rw c.requires.repo at c.in_ok-parent.ensures in
    let keeping = rw c.requires.repo at c.in_err-by.ensures in
    read_exits c.from_residual-in_err-by.ensures.1 (keeping_fails g.F.Files.tells c.args.root.now c.args.to_git tip keeping)

pub returns-in_err-files-clause-reads : goal.returns-in_err-files-clause-reads
returns-in_err-files-clause-reads g c =
    let tip = rw c.requires.repo at c.in_ok-parent.ensures in
    let keeping = rw c.requires.repo at c.in_ok-by.ensures in
    read_exits c.from_residual-in_err-files.ensures.1 (files_fail g.F.Files.tells c.args.root.now c.args.to_git tip keeping c.in_err-files.ensures.reads)

pub returns-clause-reads : goal.returns-clause-reads
returns-clause-reads g c =
    let tip = rw c.requires.repo at c.in_ok-parent.ensures in
    let keeping = rw c.requires.repo at c.in_ok-by.ensures in
    view_gives g.F.Files.tells c.args.root.now c.args.to_git tip keeping c.in_ok-files.files c.in_ok-files.ensures.reads
