use Rattle.std.proofs.Common.{ℕ, inl, sym, subst, map, string_bytes, arith}
use Rattle.datalad_cli.specs.Answer.{call_of}
use Rattle.datalad_cli.specs.Answered.{Answered}
use Rattle.datalad_cli.specs.Ends.{telling_of, world_of}
use Rattle.datalad_cli.specs.Reports.{UsageEnds}
use Rattle.datalad_cli.specs.declared.status.Status.{Status}
use Rattle.datalad_cli.proofs.Follows.{CommandLaws, follows}
use Rattle.datalad_cli.proofs.Readings.{misread, one_reading, starved_early}
use Rattle.datalad_cli.proofs.top.datalad.Goals as goal

pub returns-in-Err-NoMemory : goal.returns-in-Err-NoMemory
returns-in-Err-NoMemory g c =
    let t = telling_of g.F.Files.tells g.O.Sink.tells g.E.Sink.tells in
    let call = call_of (map string_bytes c.args.words.now) c.args.cwd.now c.args.moment c.args.fresh in
    let d = g.F.Files.drive c.args.files.now in
    let o = g.O.Sink.tape c.args.out.now in
    let laws : CommandLaws = record {
      made = c.laws.ensures.made;
      kept = c.laws.ensures.kept;
      remains = c.laws.ensures.remains;
      complete = c.laws.ensures.complete;
      single = c.laws.ensures.single;
      status = c.laws.ensures.status;
      seen = c.laws.ensures.seen;
      logged = c.laws.ensures.logged;
      answers = c.laws.ensures.answers;
      named = c.laws.ensures.named;
    } in
    subst (λ (s : Status). Answered t call (world_of d o (g.E.Sink.tape c.args.err.now)) (world_of d o (g.E.Sink.tape c.starved.new.sink)) s) (sym c.starved.ensures.status)
    (starved_early t call d o (g.E.Sink.tape c.args.err.now) (g.E.Sink.tape c.starved.new.sink) (one_reading c.laws.ensures.asked c.laws.ensures.ended call)
    (λ asked. (follows laws c.args.cwd.now c.args.moment (omega arith) c.args.fresh d d asked).one) c.starved.ensures.later c.starved.ensures.text (c.laws.ensures.meant (map string_bytes c.args.words.now)))

pub returns-in-Err-Usage : goal.returns-in-Err-Usage
returns-in-Err-Usage g c =
    let call = call_of (map string_bytes c.args.words.now) c.args.cwd.now c.args.moment c.args.fresh in
    misread (telling_of g.F.Files.tells g.O.Sink.tells g.E.Sink.tells) call (g.F.Files.drive c.args.files.now) (g.O.Sink.tape c.args.out.now) (g.E.Sink.tape c.args.err.now) (g.E.Sink.tape c.say_usage.new.sink) c.say_usage.result c.in-Err-Usage.at
    (one_reading c.laws.ensures.asked c.laws.ensures.ended call) (inl (rw c.in-Err-Usage.field-0-is at c.in-Err-Usage.ensures.refused)) c.say_usage.ensures.later
    (subst (λ (at : ℕ). UsageEnds g.E.Sink.tells at (g.E.Sink.tape c.args.err.now) (g.E.Sink.tape c.say_usage.new.sink) c.say_usage.result) c.in-Err-Usage.at-is c.say_usage.ensures.ends)

pub returns-in-Ok : goal.returns-in-Ok
returns-in-Ok g c = c.answer-status.ensures (map string_bytes c.args.words.now) c.in-Ok.ensures.found
