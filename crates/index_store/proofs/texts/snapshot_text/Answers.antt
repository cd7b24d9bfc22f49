use Rattle.std.proofs.Common.{◌<◌, ◌^◌, length, sym, ◌∙◌, subst, arith}
use Rattle.index_file.specs.All.{IsIndex}
use Rattle.snapshot.specs.All.{IsOrdered}
use Rattle.index_store.proofs.Entries.{is_index}
use Rattle.index_store.proofs.texts.snapshot_text.Goals as goal

pub encoded-requires : goal.encoded-requires
encoded-requires c =
    let list = c.entries-entries.result.now in
    let few : length list < 2 ^ 32 = omega (arith, c.if-entries-gt-MOST_ENTRIES.false) in
    subst IsIndex (sym (c.as_slice.ensures.value ∙ c.in_ok-list.ensures)) (is_index list (subst IsOrdered (sym c.entries-entries.ensures.value) c.entries-entries.ensures.ordered) few)
