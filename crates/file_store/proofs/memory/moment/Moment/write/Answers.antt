use Rattle.std.proofs.Common.{◌||◌, refl, ◌∙◌, ap, List, ℕ}
use Rattle.std.specs.BTreeSet.{contains}
use Rattle.std.specs.FinMap.{insert}
use Rattle.places.specs.All.{Names, place_cmp, place_eq}
use Rattle.file_store.proofs.Noted.{contains_more, same_disk}
use Rattle.file_store.proofs.memory.moment.Moment.write.Goals as goal

pub returns : goal.returns
returns c =
    let m = c.args.self.now in
    same_disk _ _
    (c.in_ok-insert-2.ensures.ok ∙ ap (λ (p : Names). insert m.current p c.args.bytes.items) c.in_ok-try_clone-2.ensures)
    refl
    (λ q. contains_more m.torn c.insert.new.self c.in_ok-try_clone.field-0 q c.in_ok-insert.ensures.updates
    ∙ ap (λ (p : Names). place_eq q p || contains place_cmp m.torn q) c.in_ok-try_clone.ensures)
