use Rattle.std.proofs.Common.{◌≡◌, sym, ◌∙◌, ap, subst}
use Rattle.std.specs.FinMap.{remove}
use Rattle.places.specs.All.{Ground, file_at, IsGround}
use Rattle.places.proofs.Standing.{IsGround-remove}
use Rattle.file_store.specs.Disk.{History}
use Rattle.file_store.specs.declared.memory.disk.Call.TheVariants.{Remove}
use Rattle.file_store.proofs.Kept.{as_one, latest_of, more}
use Rattle.file_store.proofs.memory.disk.MemDisk.remove.Goals as goal

pub invariant_of-self-2 : goal.invariant_of-self-2
invariant_of-self-2 c =
    let m = c.args.self.now in
    let place = c.in_ok-try_clone.field-0 in
    let here : place ≡ c.args.place.now = c.in_ok-try_clone.ensures in
    let goes : remove m.current c.args.place.now ≡ remove (latest_of m.first m.calls.items) place =
    λ i. remove (as_one m.first m.current m.calls.items m.consistent i) (sym here i) in
    let after = more m.first m.calls.items c.push.new.self.items (Remove place) c.in_ok-push.ensures.items in
    record {
      clash_free = subst IsGround (sym c.remove.ensures) (IsGround-remove m.current c.args.place.now m.clash_free);
      consistent = λ q. ap (λ (g : Ground). file_at g q) (c.remove.ensures ∙ goes ∙ sym (ap (λ (h : History). h.latest.now) after));
    }
