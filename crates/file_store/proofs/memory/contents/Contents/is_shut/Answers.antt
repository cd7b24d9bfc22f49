use Rattle.std.proofs.Common.{ap, ◌||◌, ◌∙◌}
use Rattle.places.specs.All.{is_above, Ground, is_shut}
use Rattle.file_store.specs.Memory.Lists.{ground_of}
use Rattle.file_store.proofs.Stored.{any-entries, is_shut-any}
use Rattle.file_store.proofs.memory.contents.Contents.is_shut.Goals as goal

pub returns : goal.returns
returns c =
    c.any_beside.ensures
    ∙ any-entries c.self.inside.files.entries (λ q. is_above q c.args.place.now || is_above c.args.place.now q)
    ∙ is_shut-any (ground_of c.self.inside.files.entries) c.args.place.now
    ∙ ap (λ (g : Ground). is_shut g c.args.place.now) c.self.view_is
