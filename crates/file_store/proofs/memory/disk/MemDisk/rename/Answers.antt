use Rattle.std.proofs.Common.{◌≡◌, Some, rules, ◌∙◌, ap}
use Rattle.std.specs.FinMap.{remove}
use Rattle.places.specs.All.{file_at}
use Rattle.file_store.proofs.Kept.{after_rename, differ_by, same_by, free_here, ground_rename, moved_same, moved_apart}
use Rattle.file_store.proofs.memory.disk.MemDisk.rename.Goals as goal

pub invariant_of-self-then-ne : goal.invariant_of-self-then-ne
invariant_of-self-then-ne c =
    let m = c.args.self.now in
    let moved = c.in_ok-moved.moved in
    let stands : file_at m.current c.args.from.now ≡ Some moved.items = search rules in
    let apart = differ_by c.args.from.now c.args.to.now c.ne.result c.ne.ensures c.if-ne.true in
    let files = c.remove.ensures ∙ ap (λ g. remove g c.args.from.now) c.in_ok-put.ensures.ok ∙ moved_apart m.current c.args.from.now c.args.to.now moved.items apart in
    record {
      clash_free = ground_rename m.current c.remove.new.self c.args.from.now c.args.to.now moved.items m.clash_free (free_here m.first m.current m.calls.items c.args.to.now m.consistent c.requires.free) files;
      consistent = after_rename m.first m.current c.remove.new.self m.calls.items c.put.new.calls.items c.args.from.now c.args.to.now c.in_ok-try_clone.field-0 c.in_ok-try_clone-2.field-0 moved.items
          m.consistent c.in_ok-try_clone.ensures c.in_ok-try_clone-2.ensures stands c.in_ok-put.ensures.noted files;
    }

pub invariant_of-self-else-ne : goal.invariant_of-self-else-ne
invariant_of-self-else-ne c =
    let m = c.args.self.now in
    let moved = c.in_ok-moved.moved in
    let stands : file_at m.current c.args.from.now ≡ Some moved.items = search rules in
    let same = same_by c.args.from.now c.args.to.now c.ne.result c.ne.ensures c.if-ne.false in
    let files = c.in_ok-put.ensures.ok ∙ moved_same m.current c.args.from.now c.args.to.now moved.items same in
    record {
      clash_free = ground_rename m.current c.put.new.now c.args.from.now c.args.to.now moved.items m.clash_free (free_here m.first m.current m.calls.items c.args.to.now m.consistent c.requires.free) files;
      consistent = after_rename m.first m.current c.put.new.now m.calls.items c.put.new.calls.items c.args.from.now c.args.to.now c.in_ok-try_clone.field-0 c.in_ok-try_clone-2.field-0 moved.items
          m.consistent c.in_ok-try_clone.ensures c.in_ok-try_clone-2.ensures stands c.in_ok-put.ensures.noted files;
    }
