use Rattle.std.proofs.Common.{ap, sym, ◌∙◌}
use Rattle.places.specs.All.{file_at}
use Rattle.file_store.proofs.Stored.{bytes_of, file_at-ground_of}
use Rattle.file_store.proofs.memory.contents.Contents.get.Goals as goal

pub returns : goal.returns
returns c =
    ap bytes_of c.get.ensures.value
    ∙ sym (file_at-ground_of c.self.inside.files.entries c.args.place.now)
    ∙ ap (λ g. file_at g c.args.place.now) c.self.view_is
