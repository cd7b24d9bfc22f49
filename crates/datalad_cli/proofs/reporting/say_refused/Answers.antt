use Rattle.datalad_cli.proofs.Printed.{counted}
use Rattle.datalad_cli.proofs.reporting.say_refused.Goals as goal

pub returns-in-Err-Failed-clause-later : goal.returns-in-Err-Failed-clause-later
returns-in-Err-Failed-clause-later g c = counted (g.S.Sink.tape c.args.sink.now) (g.S.Sink.tape c.write_whole.new.sink) c.write_whole.result c.write_whole.ensures.later

pub returns-clause-later : goal.returns-clause-later
returns-clause-later g c = counted (g.S.Sink.tape c.args.sink.now) (g.S.Sink.tape c.write_whole.new.sink) c.write_whole.result c.write_whole.ensures.later
