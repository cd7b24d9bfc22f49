use Rattle.std.proofs.Common.{inl, inr, refl, Ok, Err}
use Rattle.file_store.specs.All.{present}
use Rattle.acts.proofs.As.{as_exits, as_unread}
use Rattle.datalad_cli.specs.Finding.{location_by}
use Rattle.datalad_cli.specs.Messages.{source_by}
use Rattle.datalad_cli.proofs.Acting.{act_by, as_after, save_gave, save_failed, none_found, found_later, message_later}
use Rattle.datalad_cli.proofs.top.save_at.Goals as goal

pub returns-in_err-root-clause-acts : goal.returns-in_err-root-clause-acts
returns-in_err-root-clause-acts g c =
    as_exits c.from_residual.ensures.1
    (as_unread c.in_err-root.field-0.0 (λ fault h. inl (inl h)) (λ t fault h. none_found (location_by c.args.cwd.now c.args.dataset.now) _ (present (g.F.Files.drive c.args.files.now)) fault h.0 h.1) c.in_err-root.ensures.reads)

pub returns-in_err-message-clause-acts : goal.returns-in_err-message-clause-acts
returns-in_err-message-clause-acts g c =
    let at = location_by c.args.cwd.now c.args.dataset.now in
    let source = source_by c.args.cwd.now c.args.word.now c.args.file.now in
    let reads = c.in_ok-root.ensures.reads in
    let d = g.F.Files.drive in
    as_exits c.from_residual-in_err-message.ensures.1
    (as_after reads.later (λ t. (reads.told t).same)
    (as_unread c.in_err-message.field-0.0 (λ fault h. inr h)
    (λ t fault h. act_by at source c.args.to_git c.args.moment c.in_ok-root.root (Err fault) (present (d c.find_root.new.files)) _ (found_later at c.in_ok-root.root (d c.args.files.now) (d c.find_root.new.files) (reads.told t).same (reads.told t).answer) h refl)
    c.in_err-message.ensures))

pub returns-in_err-save-clause-acts : goal.returns-in_err-save-clause-acts
returns-in_err-save-clause-acts g c =
    let at = location_by c.args.cwd.now c.args.dataset.now in
    let source = source_by c.args.cwd.now c.args.word.now c.args.file.now in
    let d = g.F.Files.drive in
    let reads = c.in_ok-root.ensures.reads in
    let more = c.in_ok-message.ensures in
    as_exits c.from_residual-in_err-save.ensures.1
    (as_after reads.later (λ t. (reads.told t).same)
    (as_after more.later (λ t. (more.told t).same)
    (save_failed at source c.args.to_git c.args.moment c.in_ok-root.root c.in_ok-message.message c.in_ok-root.ensures.above g.F.Files.tells c.args.lines.now.items c.save.new.lines.items (d c.find_message.new.files) (d c.save.new.files)
    (λ t. found_later at c.in_ok-root.root (d c.find_root.new.files) (d c.find_message.new.files) (more.told t).same (found_later at c.in_ok-root.root (d c.args.files.now) (d c.find_root.new.files) (reads.told t).same (reads.told t).answer))
    (λ t. message_later source (Ok c.in_ok-message.message) (d c.find_root.new.files) (d c.find_message.new.files) (more.told t).same (more.told t).answer)
    c.in_err-save.field-0.0 c.in_err-save.ensures.acts)))

pub returns-clause-acts : goal.returns-clause-acts
returns-clause-acts g c =
    let at = location_by c.args.cwd.now c.args.dataset.now in
    let source = source_by c.args.cwd.now c.args.word.now c.args.file.now in
    let d = g.F.Files.drive in
    let reads = c.in_ok-root.ensures.reads in
    let more = c.in_ok-message.ensures in
    as_after reads.later (λ t. (reads.told t).same)
    (as_after more.later (λ t. (more.told t).same)
    (save_gave at source c.args.to_git c.args.moment c.in_ok-root.root c.in_ok-message.message c.in_ok-root.ensures.above g.F.Files.tells c.args.lines.now.items c.save.new.lines.items (d c.find_message.new.files) (d c.save.new.files)
    (λ t. found_later at c.in_ok-root.root (d c.find_root.new.files) (d c.find_message.new.files) (more.told t).same (found_later at c.in_ok-root.root (d c.args.files.now) (d c.find_root.new.files) (reads.told t).same (reads.told t).answer))
    (λ t. message_later source (Ok c.in_ok-message.message) (d c.find_root.new.files) (d c.find_message.new.files) (more.told t).same (more.told t).answer)
    c.in_ok-save.field-0 c.no_text.result c.no_text.ensures c.in_ok-save.ensures.acts))
