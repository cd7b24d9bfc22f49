use Rattle.std.proofs.Common.{◌≡◌, ◌++◌, [], rules, sym, ◌∙◌, ap}
use Rattle.std.specs.Prelude.{unwrap_or}
use Rattle.std.specs.FinMap.{insert}
use Rattle.places.specs.All.{file_at}
use Rattle.file_store.specs.declared.memory.disk.Call.TheVariants.{Append}
use Rattle.file_store.proofs.Kept.{after_put, as_one, latest_of, free_here, ground_put}
use Rattle.file_store.proofs.memory.disk.MemDisk.append.Goals as goal

pub invariant_of-self : goal.invariant_of-self
invariant_of-self c =
    let m = c.args.self.now in
    let place = c.in_ok-try_clone.field-0 in
    let noted = c.in_ok-to_vec.field-0 in
    let same_noted : noted.items ≡ c.args.bytes.now = search rules in
    let here : place ≡ c.args.place.now = c.in_ok-try_clone.ensures in
    let front = c.in_ok-whole.ensures ∙ ap (λ o. unwrap_or o []) c.get.ensures in
    let whole : c.extend_from_slice.new.self.items ≡ c.in_ok-whole.whole.items ++ c.args.bytes.now = search rules in
    let one = as_one m.first m.current m.calls.items m.consistent in
    let goes : insert m.current c.args.place.now c.extend_from_slice.new.self.items ≡ insert (latest_of m.first m.calls.items) place (unwrap_or (file_at (latest_of m.first m.calls.items) place) [] ++ noted.items) =
    ap (λ l. insert m.current c.args.place.now l) (whole ∙ ap (λ l. l ++ c.args.bytes.now) front)
    ∙ (λ i. insert (one i) (sym here i) (unwrap_or (file_at (one i) (sym here i)) [] ++ sym same_noted i)) in
    let e = c.put.ensures in
    record {
      clash_free = ground_put m.current c.put.new.now c.args.place.now _ c.put.result m.clash_free (free_here m.first m.current m.calls.items c.args.place.now m.consistent c.requires) e.ok e.err;
      consistent = after_put m.first m.current c.put.new.now m.calls.items c.put.new.calls.items (Append place noted) _ c.put.result m.consistent goes e.ok e.noted e.err e.forgotten;
    }
