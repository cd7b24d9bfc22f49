use Rattle.std.proofs.Common.{◌∙◌, inr, refl, sym, subst, List, arith}
use Rattle.faults.specs.declared.lines.Line.{Line}
use Rattle.datalad_cli.specs.Answer.{call_of}
use Rattle.datalad_cli.specs.Commands.{CarriesOut, command_of}
use Rattle.datalad_cli.specs.Decides.{MayEnd}
use Rattle.datalad_cli.specs.Ends.{telling_of, world_of}
use Rattle.datalad_cli.specs.Reports.{ReportEnds}
use Rattle.datalad_cli.proofs.CommandLaws.{prints, fault_of, command_says}
use Rattle.datalad_cli.proofs.Follows.{CommandLaws, follows}
use Rattle.datalad_cli.proofs.Readings.{asks, misread, one_reading}
use Rattle.datalad_cli.proofs.top.answer.Goals as goal

pub returns-then-not-is_built : goal.returns-then-not-is_built
returns-then-not-is_built g c = λ words ask.
    let call = call_of words c.args.cwd.now c.args.moment c.args.fresh.now in
    misread (telling_of g.F.Files.tells g.O.Sink.tells g.E.Sink.tells) call (g.F.Files.drive c.args.files.now) (g.O.Sink.tape c.args.out.now) (g.E.Sink.tape c.args.err.now) (g.E.Sink.tape c.say_usage.new.sink) c.say_usage.result 0
    (one_reading c.laws.ensures.asked c.laws.ensures.ended call) (inr (c.args.asked.now, ask, sym c.is_built.ensures ∙ c.if-not-is_built.true, refl)) c.say_usage.ensures.later c.say_usage.ensures.ends

pub returns : goal.returns
returns g c = λ words ask.
    let t = telling_of g.F.Files.tells g.O.Sink.tells g.E.Sink.tells in
    let call = call_of words c.args.cwd.now c.args.moment c.args.fresh.now in
    let old = world_of (g.F.Files.drive c.args.files.now) (g.O.Sink.tape c.args.out.now) (g.E.Sink.tape c.args.err.now) in
    let new = world_of (g.F.Files.drive c.act-outcome.new.files) (g.O.Sink.tape c.report.new.out) (g.E.Sink.tape c.report.new.err) in
    let command = command_of c.args.cwd.now c.args.moment c.args.fresh.now c.args.asked.now in
    let lines = c.act-outcome.new.lines.items in
    let laws : CommandLaws = record {
      made = c.laws.ensures.made;
      kept = c.laws.ensures.kept;
      remains = c.laws.ensures.remains;
      complete = c.laws.ensures.complete;
      single = c.laws.ensures.single;
      status = c.laws.ensures.status;
      seen = c.laws.ensures.seen;
      logged = c.laws.ensures.logged;
      answers = c.laws.ensures.answers;
      named = c.laws.ensures.named;
    } in
    let printed : ReportEnds t.heard lines c.act-outcome.result old.tapes new.tapes c.report.result =
    subst (λ (ls : List Line). ReportEnds t.heard ls c.act-outcome.result old.tapes new.tapes c.report.result) c.as_slice.ensures.value c.report.ensures.ends in
    let may : MayEnd t.files command lines c.act-outcome.result =
    record { says = c.act-outcome.ensures.says; fault = fault_of t.files command c.act-outcome.result c.act-outcome.ensures.acts.cause } in
    asks t call old new c.report.result c.args.asked.now (one_reading c.laws.ensures.asked c.laws.ensures.ended call) ask (sym c.is_built.ensures ∙ c.if-not-is_built.false)
    (prints t command lines old new c.act-outcome.result
    (subst (λ (l : List Line). CarriesOut t.files command l lines old.drive new.drive c.act-outcome.result) c.new-lines.ensures.items c.act-outcome.ensures.acts)
    (follows laws c.args.cwd.now c.args.moment (omega arith) c.args.fresh.now old.drive new.drive c.args.asked.now)
    c.report.result c.report.ensures.out_later c.report.ensures.err_later printed)
    (command_says t command old new lines c.act-outcome.result c.report.result may printed)
