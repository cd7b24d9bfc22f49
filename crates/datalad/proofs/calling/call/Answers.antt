use Rattle.std.proofs.Common.{List, String, map, string_bytes, subst}
use Rattle.std.specs.declared.alloc.Global.{Global}
use Rattle.datalad_cli.specs.All.{Answered, call_of, telling_of, world_of}
use Rattle.datalad.proofs.calling.call.Goals as goal

pub returns : goal.returns
returns g c =
    let start = c.args.start.now in
    subst (λ (words : List (String Global)). Answered (telling_of g.F.Files.tells g.O.Sink.tells g.E.Sink.tells)
    (call_of (map string_bytes words) start.cwd start.moment start.fresh)
    (world_of (g.F.Files.drive c.args.files.now) (g.O.Sink.tape c.args.out.now) (g.E.Sink.tape c.args.err.now))
    (world_of (g.F.Files.drive c.run.new.files) (g.O.Sink.tape c.run.new.out) (g.E.Sink.tape c.run.new.err)) c.run.result)
    c.as_slice.ensures.value c.run.ensures
