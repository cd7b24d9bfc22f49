use Rattle.std.proofs.lemmas.Result.{IfOk-weaker}
use Rattle.std.proofs.Common.{subst}
use Rattle.places.specs.All.{Ground}
use Rattle.file_store.specs.Kinds.{AreListed, IsListing}
use Rattle.file_store.proofs.Kept.{as_one, latest_of}
use Rattle.file_store.proofs.memory.disk.MemDisk.list.Goals as goal

pub returns : goal.returns
returns c =
    let m = c.args.self.now in
    let now = latest_of m.first m.calls.items in
    let at = c.args.place.now in
    IfOk-weaker c.list.result (λ items. AreListed items.items × IsListing m.current at items.items) (λ items. AreListed items.items × IsListing now at items.items)
    (λ items l. (l.0, subst (λ (g : Ground). IsListing g at items.items) (as_one m.first m.current m.calls.items m.consistent) l.1)) c.list.ensures
