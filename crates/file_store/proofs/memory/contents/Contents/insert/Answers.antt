use Rattle.std.proofs.Common.{ap, ◌∙◌}
use Rattle.std.specs.FinMap.{insert}
use Rattle.file_store.proofs.Stored.{inserted}
use Rattle.file_store.proofs.memory.contents.Contents.insert.Goals as goal

pub returns-clause-ok : goal.returns-clause-ok
returns-clause-ok c =
    inserted c.self.inside.files c.insert.new.self c.args.place c.args.bytes c.in_ok-insert.ensures.updates
    ∙ ap (λ g. insert g c.args.place c.args.bytes.items) c.self.view_is
