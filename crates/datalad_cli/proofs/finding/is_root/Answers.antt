use Rattle.std.proofs.Common.{◌∙◌, sym, refl, arith}
use Rattle.file_store.specs.All.{present}
use Rattle.acts.proofs.Reading.{read_gives}
use Rattle.datalad_cli.proofs.Upwards.{no_root, root_is}
use Rattle.datalad_cli.proofs.finding.is_root.Goals as goal

pub returns-in-None-clause-reads : goal.returns-in-None-clause-reads
returns-in-None-clause-reads g c =
    read_gives (omega arith) (λ t. (refl, no_root (present (g.F.Files.drive c.args.files.now)) c.args.place.now (sym c.in_ok-head_within.ensures.place ∙ c.in-None.is)))

pub returns-in_ok-size-in-Some-clause-reads : goal.returns-in_ok-size-in-Some-clause-reads
returns-in_ok-size-in-Some-clause-reads g c =
    read_gives c.in_ok-size-in-Some.ensures.later (λ t.
    let e = c.in_ok-size-in-Some.ensures.ends t in
    (e.0, c.is_some.ensures ∙ root_is (present (g.F.Files.drive c.args.files.now)) c.args.place.now c.in-Some.head c.in_ok-size-in-Some.field-0 (sym c.in_ok-head_within.ensures.place ∙ c.in-Some.is) e.1))

pub returns-in_ok-size-in-Some-clause-room : goal.returns-in_ok-size-in-Some-clause-room
returns-in_ok-size-in-Some-clause-room g c = λ is. rw c.in-Some.is at c.in_ok-head_within.ensures.room
