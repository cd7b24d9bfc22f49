use Rattle.acts.proofs.Reading.{read_exits}
use Rattle.history.proofs.Going.{word_fails, word_logs}
use Rattle.history.proofs.logs.log.Goals as goal

pub returns-in_err-start-clause-reads : goal.returns-in_err-start-clause-reads
returns-in_err-start-clause-reads g c =
    let drive = g.F.Files.drive in
    read_exits c.from_residual.ensures.1 (word_fails g.F.Files.tells c.args.repo.now c.args.word.now (drive c.args.files.now) (drive c.resolve.new.files) c.in_err-start.field-0.0 c.in_err-start.ensures.reads)

pub returns-clause-reads : goal.returns-clause-reads
returns-clause-reads g c =
    let drive = g.F.Files.drive in
    word_logs g.F.Files.tells c.args.repo.now c.args.word.now (drive c.args.files.now) (drive c.resolve.new.files) (drive c.log_from.new.files) c.in_ok-start.start c.log_from.result c.in_ok-start.ensures.reads c.log_from.ensures.reads
