use Rattle.std.proofs.Common.{◌≡◌, rules, sym, ◌∙◌}
use Rattle.std.specs.FinMap.{insert}
use Rattle.file_store.specs.declared.memory.disk.Call.TheVariants.{Write}
use Rattle.file_store.proofs.Kept.{after_put, as_one, latest_of, free_here, ground_put}
use Rattle.file_store.proofs.memory.disk.MemDisk.write.Goals as goal

pub invariant_of-self-2 : goal.invariant_of-self-2
invariant_of-self-2 c =
    let m = c.args.self.now in
    let place = c.in_ok-try_clone.field-0 in
    let noted = c.in_ok-to_vec.field-0 in
    let stored = c.in_ok-to_vec-2.field-0 in
    let same_noted : noted.items ≡ c.args.bytes.now = search rules in
    let same_stored : stored.items ≡ c.args.bytes.now = search rules in
    let here : place ≡ c.args.place.now = c.in_ok-try_clone.ensures in
    let goes : insert m.current c.args.place.now stored.items ≡ insert (latest_of m.first m.calls.items) place noted.items =
    λ i. insert (as_one m.first m.current m.calls.items m.consistent i) (sym here i) ((same_stored ∙ sym same_noted) i) in
    let e = c.put.ensures in
    record {
      clash_free = ground_put m.current c.put.new.now c.args.place.now _ c.put.result m.clash_free (free_here m.first m.current m.calls.items c.args.place.now m.consistent c.requires) e.ok e.err;
      consistent = after_put m.first m.current c.put.new.now m.calls.items c.put.new.calls.items (Write place noted) _ c.put.result m.consistent goes e.ok e.noted e.err e.forgotten;
    }
