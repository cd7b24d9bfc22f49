use Rattle.std.proofs.Common.{◌≡◌, Some, rules, sym, ◌∙◌, ap}
use Rattle.std.specs.FinMap.{insert, remove}
use Rattle.places.specs.All.{Ground, file_at}
use Rattle.file_store.specs.Memory.Moment.{disk_of}
use Rattle.file_store.proofs.Images.{renamed-moved}
use Rattle.file_store.proofs.Noted.{same_disk}
use Rattle.file_store.proofs.memory.moment.Moment.rename.Goals as goal

pub returns : goal.returns
returns c =
    let m = c.args.self.now in
    let moved = c.in_ok-moved.moved in
    let stands : file_at m.current c.args.from.now ≡ Some moved.items = search rules in
    let torn = c.in_ok-tear.ensures in
    let gone = c.remove.ensures ∙ ap (λ (g : Ground). remove g c.args.from.now) torn.files.0 in
    same_disk _ _ (c.in_ok-insert.ensures.ok ∙ (λ i. insert (gone i) (c.in_ok-try_clone.ensures i) moved.items)) torn.files.1 torn.torn
    ∙ sym (renamed-moved c.args.from.now c.args.to.now moved.items (disk_of m) stands)
