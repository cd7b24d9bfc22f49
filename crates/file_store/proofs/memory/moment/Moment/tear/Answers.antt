use Rattle.std.proofs.Common.{◌||◌, sym, ◌∙◌, ap, List, ℕ}
use Rattle.std.specs.BTreeSet.{contains}
use Rattle.places.specs.All.{Names, place_cmp, place_eq}
use Rattle.file_store.specs.Memory.Moment.{disk_of, tears}
use Rattle.file_store.proofs.Noted.{contains_more, torn_so}
use Rattle.file_store.proofs.memory.moment.Moment.tear.Goals as goal

pub returns-clause-torn : goal.returns-clause-torn
returns-clause-torn c = λ q.
    let m = c.args.self.now in
    contains_more m.torn c.insert.new.self c.in_ok-try_clone.field-0 q c.in_ok-insert.ensures.updates
    ∙ ap (λ (p : Names). place_eq q p || contains place_cmp m.torn q) c.in_ok-try_clone.ensures
    ∙ torn_so q c.args.to.now (tears (disk_of m) c.args.from.now c.args.to.now) (contains place_cmp m.torn q) (sym c.tears.ensures ∙ c.if-not-tears.false)
