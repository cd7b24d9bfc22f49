use Rattle.datalad_cli.specs.Answer.{device_text}
use Rattle.datalad_cli.proofs.Printed.{told_text, counted}
use Rattle.datalad_cli.proofs.reporting.failed.Goals as goal

pub returns-clause-text : goal.returns-clause-text
returns-clause-text g c =
    told_text g.S.Sink.tells device_text (g.S.Sink.tape c.args.sink.now) (g.S.Sink.tape c.write_whole.new.sink) c.write_whole.result c.write_whole.ensures.later c.write_whole.ensures.ends

pub returns-clause-later : goal.returns-clause-later
returns-clause-later g c = counted (g.S.Sink.tape c.args.sink.now) (g.S.Sink.tape c.write_whole.new.sink) c.write_whole.result c.write_whole.ensures.later
