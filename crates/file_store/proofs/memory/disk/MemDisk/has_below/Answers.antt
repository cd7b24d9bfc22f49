use Rattle.std.proofs.Common.{ap, ◌∙◌}
use Rattle.places.specs.All.{Ground, stands_below}
use Rattle.file_store.proofs.Kept.{as_one}
use Rattle.file_store.proofs.memory.disk.MemDisk.has_below.Goals as goal

pub returns : goal.returns
returns c =
    let m = c.args.self.now in
    c.has_below.ensures ∙ ap (λ (g : Ground). stands_below g c.args.place.now) (as_one m.first m.current m.calls.items m.consistent)
