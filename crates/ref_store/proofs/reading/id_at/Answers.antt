use Rattle.file_store.specs.All.{present}
use Rattle.std.proofs.Common.{◌∙◌, arith}
use Rattle.acts.proofs.Reading.{read_gives}
use Rattle.repository.specs.All.{id_in}
use Rattle.ref_store.proofs.Fronts.{front_given, id_form}
use Rattle.ref_store.proofs.reading.id_at.Goals as goal

pub returns : goal.returns
returns g c = read_gives c.in_ok-count.ensures.later (λ t.
    let was = c.in_ok-count.ensures.ends.1 t in
    (was.0, c.id_in.ensures ∙ front_given id_in 41 42 id_form (omega arith) (present (g.F.Files.drive c.args.files.now)) c.args.place.now _ c.read_part.new.buffer c.in_ok-count.count was.1 was.2))
