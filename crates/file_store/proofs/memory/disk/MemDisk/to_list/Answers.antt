use Rattle.std.proofs.lemmas.Result.{IfOk-weaker}
use Rattle.file_store.specs.Memory.Lists.{IsListOf}
use Rattle.file_store.proofs.Gathered.{IsListOf-same}
use Rattle.file_store.proofs.Kept.{as_one, latest_of}
use Rattle.file_store.proofs.memory.disk.MemDisk.to_list.Goals as goal

pub returns : goal.returns
returns c =
    let m = c.args.self.now in
    let now = latest_of m.first m.calls.items in
    IfOk-weaker c.to_list.result (λ list. IsListOf m.current list.items) (λ list. IsListOf now list.items)
    (λ list l. IsListOf-same m.current now list.items (as_one m.first m.current m.calls.items m.consistent) l) c.to_list.ensures
