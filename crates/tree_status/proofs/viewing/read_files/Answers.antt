use Rattle.std.proofs.Common.{◌∙◌, sym, subst}
use Rattle.std.proofs.lemmas.Bool.{false≢true}
use Rattle.acts.proofs.Reading.{read_exits}
use Rattle.tree_status.specs.Changes.{ArePaths}
use Rattle.tree_status.proofs.Views.{files_end, order_fails, work_fails}
use Rattle.tree_status.proofs.viewing.read_files.Goals as goal

pub returns-in_err-paths-clause-reads : goal.returns-in_err-paths-clause-reads
returns-in_err-paths-clause-reads g c =
    read_exits c.from_residual.ensures.1 (work_fails g.F.Files.tells c.args.root.now c.args.by.now c.in_err-paths.ensures)

pub returns-then-not-are_paths-clause-reads : goal.returns-then-not-are_paths-clause-reads
returns-then-not-are_paths-clause-reads g c =
    order_fails g.F.Files.tells c.args.root.now c.args.by.now c.in_ok-paths.ensures _
    (λ are. false≢true (sym c.if-not-are_paths.true ∙ c.are_paths.ensures.1 (subst ArePaths (sym c.as_slice.ensures.value) are)))

pub returns-clause-reads : goal.returns-clause-reads
returns-clause-reads g c =
    files_end g.F.Files.tells c.args.root.now c.args.by.now c.in_ok-paths.ensures c.keep_files.result (rw c.as_slice-2.ensures.value at c.keep_files.ensures.reads)
