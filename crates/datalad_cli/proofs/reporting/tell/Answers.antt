use Rattle.std.proofs.Common.{Err, ap, ◌∙◌}
use Rattle.faults.specs.declared.faults.Trouble.{Trouble}
use Rattle.datalad_cli.proofs.Printed.{at_device, at_memory, counted, refused_ends, device_ends, memory_ends}
use Rattle.datalad_cli.proofs.reporting.tell.Goals as goal

pub returns-in-Err-Failed-clause-out_later : goal.returns-in-Err-Failed-clause-out_later
returns-in-Err-Failed-clause-out_later g c =
    at_device c.failed.result c.failed.ensures.status (counted (g.O.Sink.tape c.args.out.now) (g.O.Sink.tape c.write_whole.new.sink) c.write_whole.result c.write_whole.ensures.later)

pub returns-in-Err-NoMemory-clause-out_later : goal.returns-in-Err-NoMemory-clause-out_later
returns-in-Err-NoMemory-clause-out_later g c =
    at_memory c.starved.result c.starved.ensures.status (counted (g.O.Sink.tape c.args.out.now) (g.O.Sink.tape c.write_whole.new.sink) c.write_whole.result c.write_whole.ensures.later)

pub returns-in-Err-Refused-clause-ends : goal.returns-in-Err-Refused-clause-ends
returns-in-Err-Refused-clause-ends g c =
    refused_ends (record { out = g.O.Sink.tells; err = g.E.Sink.tells }) c.args.text.now (g.O.Sink.tape c.args.out.now) (g.O.Sink.tape c.write_whole.new.sink) (g.E.Sink.tape c.args.err.now) (g.E.Sink.tape c.say_refused.new.sink)
    c.in-Ok.ensures.ends c.args.outcome c.in-Err-Refused.fault (c.in-Err-Refused.is ∙ ap (λ (t : Trouble). Err t) c.in-Err-Refused.field-0-is) c.say_refused.result c.say_refused.ensures.ends

pub returns-in-Err-Device-clause-ends : goal.returns-in-Err-Device-clause-ends
returns-in-Err-Device-clause-ends g c =
    device_ends (record { out = g.O.Sink.tells; err = g.E.Sink.tells }) c.args.text.now (g.O.Sink.tape c.args.out.now) (g.O.Sink.tape c.write_whole.new.sink) (g.E.Sink.tape c.args.err.now) (g.E.Sink.tape c.failed-in-Err-Device.new.sink)
    c.in-Ok.ensures.ends c.args.outcome (c.in-Err-Device.is ∙ ap (λ (t : Trouble). Err t) c.in-Err-Device.field-0-is) c.failed-in-Err-Device.result c.failed-in-Err-Device.ensures.status c.failed-in-Err-Device.ensures.text

pub returns-in-Err-NoMemory-outcome-clause-ends : goal.returns-in-Err-NoMemory-outcome-clause-ends
returns-in-Err-NoMemory-outcome-clause-ends g c =
    memory_ends (record { out = g.O.Sink.tells; err = g.E.Sink.tells }) c.args.text.now (g.O.Sink.tape c.args.out.now) (g.O.Sink.tape c.write_whole.new.sink) (g.E.Sink.tape c.args.err.now) (g.E.Sink.tape c.starved-in-Err-NoMemory-outcome.new.sink)
    c.in-Ok.ensures.ends c.args.outcome c.starved-in-Err-NoMemory-outcome.result c.starved-in-Err-NoMemory-outcome.ensures.status c.starved-in-Err-NoMemory-outcome.ensures.text
