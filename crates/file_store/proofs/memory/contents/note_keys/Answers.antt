use Rattle.std.proofs.Common.{◌||◌, sym, ◌∙◌, ap}
use Rattle.std.specs.List.{list_any}
use Rattle.std.specs.BTreeMap.{is_at}
use Rattle.std.specs.BTreeSet.{contains}
use Rattle.places.specs.All.{place_cmp}
use Rattle.file_store.proofs.Noted.{note_more}
use Rattle.file_store.proofs.memory.contents.note_keys.Goals as goal

pub loop-place-preserved : goal.loop-place-preserved
loop-place-preserved c = λ q.
    note_more c.loop-place.named c.insert.new.self c.in-Some.place.now c.in_ok-try_clone.field-0 q _ c.in_ok-try_clone.ensures c.in_ok-insert.ensures.updates
    ∙ ap (λ ps. contains place_cmp c.loop-place.named q || list_any (is_at (place_cmp q)) ps) (sym c.in-Some.ensures.steps)
    ∙ c.loop-place.invariant q
