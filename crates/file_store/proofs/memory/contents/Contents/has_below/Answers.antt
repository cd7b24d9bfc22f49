use Rattle.std.proofs.Common.{ap, ◌∙◌}
use Rattle.places.specs.All.{is_above, Ground, stands_below}
use Rattle.file_store.specs.Memory.Lists.{ground_of}
use Rattle.file_store.proofs.Stored.{any-entries, stands_below-any}
use Rattle.file_store.proofs.memory.contents.Contents.has_below.Goals as goal

pub returns : goal.returns
returns c =
    c.any_below.ensures
    ∙ any-entries c.self.inside.files.entries (is_above c.args.place.now)
    ∙ stands_below-any (ground_of c.self.inside.files.entries) c.args.place.now
    ∙ ap (λ (g : Ground). stands_below g c.args.place.now) c.self.view_is
