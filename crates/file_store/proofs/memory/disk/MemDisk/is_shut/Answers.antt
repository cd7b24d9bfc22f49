use Rattle.std.proofs.Common.{ap, ◌∙◌}
use Rattle.places.specs.All.{Ground, is_shut}
use Rattle.file_store.proofs.Kept.{as_one}
use Rattle.file_store.proofs.memory.disk.MemDisk.is_shut.Goals as goal

pub returns : goal.returns
returns c =
    let m = c.args.self.now in
    c.is_shut.ensures ∙ ap (λ (g : Ground). is_shut g c.args.place.now) (as_one m.first m.current m.calls.items m.consistent)
