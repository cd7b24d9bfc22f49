use Rattle.std.proofs.Common.{List, ℕ, Ok, inl, sym, subst}
use Rattle.file_store.specs.All.{present}
use Rattle.acts.proofs.As.{as_exits, as_unread}
use Rattle.tree_status.specs.All.{MayView, StatusEnds}
use Rattle.datalad_cli.specs.Commands.{CarriesOut, StatusOf}
use Rattle.datalad_cli.specs.Finding.{location_by}
use Rattle.datalad_cli.proofs.Acting.{as_after, none_found, found_later}
use Rattle.datalad_cli.proofs.ReadActs.{read_gave, read_failed}
use Rattle.datalad_cli.proofs.top.status_at.Goals as goal

pub returns-in_err-root-clause-acts : goal.returns-in_err-root-clause-acts
returns-in_err-root-clause-acts g c =
    as_exits c.from_residual.ensures.1
    (as_unread c.in_err-root.field-0.0 (λ fault h. inl h) (λ t fault h. none_found (location_by c.args.cwd.now c.args.dataset.now) _ (present (g.F.Files.drive c.args.files.now)) fault h.0 h.1) c.in_err-root.ensures.reads)

pub returns-in_err-text-clause-acts : goal.returns-in_err-text-clause-acts
returns-in_err-text-clause-acts g c =
    let found = c.in_ok-root.ensures.reads in
    let d = g.F.Files.drive in
    as_exits c.from_residual-in_err-text.ensures.1
    (as_after found.later (λ t. (found.told t).same)
    (read_failed StatusEnds (λ root fault. MayView g.F.Files.tells root fault) (location_by c.args.cwd.now c.args.dataset.now) c.in_ok-root.root c.in_ok-root.ensures.above g.F.Files.tells c.args.lines.now.items (d c.find_root.new.files) (d c.status.new.files)
    (λ t. found_later (location_by c.args.cwd.now c.args.dataset.now) c.in_ok-root.root (d c.args.files.now) (d c.find_root.new.files) (found.told t).same (found.told t).answer) c.in_err-text.field-0.0
    c.in_err-text.ensures.reads))

pub returns-clause-acts : goal.returns-clause-acts
returns-clause-acts g c =
    let found = c.in_ok-root.ensures.reads in
    let reads = c.in_ok-text.ensures.reads in
    let d = g.F.Files.drive in
    let l = c.args.lines.now.items in
    subst (λ (text : List ℕ). CarriesOut g.F.Files.tells (StatusOf (location_by c.args.cwd.now c.args.dataset.now)) l l (d c.args.files.now) (d c.status.new.files) (Ok text)) (sym c.new.ensures)
    (as_after found.later (λ t. (found.told t).same)
    (read_gave StatusEnds (λ root fault. MayView g.F.Files.tells root fault) (location_by c.args.cwd.now c.args.dataset.now) c.in_ok-root.root c.in_ok-root.ensures.above g.F.Files.tells l (d c.find_root.new.files) (d c.status.new.files)
    (λ t. found_later (location_by c.args.cwd.now c.args.dataset.now) c.in_ok-root.root (d c.args.files.now) (d c.find_root.new.files) (found.told t).same (found.told t).answer)
    c.in_ok-text.text.items reads.later (λ t. ((reads.told t).same, (reads.told t).answer))))
