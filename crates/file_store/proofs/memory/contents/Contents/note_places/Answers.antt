use Rattle.std.proofs.Common.{◌||◌, ◌∙◌, ap}
use Rattle.std.proofs.lemmas.Result.{on_ok_weaker}
use Rattle.std.specs.BTreeSet.{contains}
use Rattle.places.specs.All.{place_cmp, Ground, stands}
use Rattle.file_store.proofs.Noted.{keys-stands}
use Rattle.file_store.proofs.memory.contents.Contents.note_places.Goals as goal

pub returns : goal.returns
returns c = on_ok_weaker c.note_keys.result
    (λ all q. all q
    ∙ ap (λ b. contains place_cmp c.args.named.now q || b) (keys-stands c.self.inside.files.entries q ∙ ap (λ (g : Ground). stands g q) c.self.view_is))
    c.note_keys.ensures
