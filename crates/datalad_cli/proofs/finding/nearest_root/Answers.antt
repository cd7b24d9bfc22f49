use Rattle.acts.proofs.Reading.{read_exits, read_err}
use Rattle.datalad_cli.proofs.Upwards.{finds, finds_none}
use Rattle.datalad_cli.proofs.finding.nearest_root.Goals as goal

pub returns-in_err-root-clause-reads : goal.returns-in_err-root-clause-reads
returns-in_err-root-clause-reads g c = read_exits c.from_residual-in_err-root.ensures.1 (read_err (λ f h. absurd h) (λ f h. absurd h) c.in_err-root.ensures.reads)

pub returns-in-Some-clause-reads : goal.returns-in-Some-clause-reads
returns-in-Some-clause-reads g c =
    finds g.F.Files.tells c.args.cwd.now c.in_ok-start.start (g.F.Files.drive c.args.files.now) (g.F.Files.drive c.root_from.new.files) c.in_ok-root.field-0 c.in_ok-start.ensures c.in_ok-root.ensures.reads c.in-Some.root c.in-Some.is

pub returns-in-None-clause-reads : goal.returns-in-None-clause-reads
returns-in-None-clause-reads g c =
    finds_none g.F.Files.tells c.args.cwd.now c.in_ok-start.start (g.F.Files.drive c.args.files.now) (g.F.Files.drive c.root_from.new.files) c.in_ok-root.field-0 c.in_ok-start.ensures c.in_ok-root.ensures.reads c.in_ok-place.place c.in_ok-place.ensures c.in-None.is
