use Rattle.std.proofs.Common.{ap, ◌∙◌}
use Rattle.std.specs.FinMap.{remove}
use Rattle.file_store.proofs.Stored.{taken}
use Rattle.file_store.proofs.memory.contents.Contents.remove.Goals as goal

pub returns : goal.returns
returns c =
    taken c.self.inside.files c.remove.new.self c.args.place.now c.remove.ensures.updates
    ∙ ap (λ g. remove g c.args.place.now) c.self.view_is
