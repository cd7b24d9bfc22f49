use Rattle.std.proofs.Common.{◌||◌, ◌∙◌, ap}
use Rattle.std.proofs.lemmas.Result.{on_ok_weaker}
use Rattle.std.specs.BTreeSet.{contains}
use Rattle.places.specs.All.{place_cmp, stands}
use Rattle.file_store.proofs.memory.moment.Moment.note_places.Goals as goal

pub returns : goal.returns
returns c =
    let m = c.args.self.now in
    on_ok_weaker c.note_all.result
    (λ all q. all q ∙ ap (λ b. b || contains place_cmp m.torn q)
    (c.in_ok-note_places-2.ensures q ∙ ap (λ b. b || stands m.safe q) (c.in_ok-note_places.ensures q)))
    c.note_all.ensures
