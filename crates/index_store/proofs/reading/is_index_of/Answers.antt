use Rattle.std.proofs.Common.{sym, ap, ◌∙◌, subst}
use Rattle.index_file.specs.All.{IsIndexText, RefusesIndex}
use Rattle.index_file.proofs.Readings.{list_once, no_list}
use Rattle.index_store.specs.Indexes.{index_entries}
use Rattle.index_store.proofs.reading.is_index_of.Goals as goal

pub returns-in-Ok : goal.returns-in-Ok
returns-in-Ok c =
    let bytes = c.args.bytes.now in
    let snapshot = c.args.snapshot.now in (
      λ same. subst (IsIndexText bytes) (sym c.as_slice.ensures.value ∙ c.are_entries.ensures.0 same ∙ ap index_entries c.entries.ensures.value) c.in-Ok.ensures,
      λ is. c.are_entries.ensures.1 (c.as_slice.ensures.value ∙ list_once bytes c.in-Ok.list.items (index_entries snapshot) c.in-Ok.ensures is ∙ ap index_entries (sym c.entries.ensures.value)),
    )

pub returns-in-Err-BadIndex : goal.returns-in-Err-BadIndex
returns-in-Err-BadIndex c = (
  λ no. cc no,
  λ is. absurd (no_list c.args.bytes.now c.in-Err-BadIndex.field-0-0 (index_entries c.args.snapshot.now) (subst (RefusesIndex c.args.bytes.now) c.in-Err-BadIndex.field-0-is c.in-Err-BadIndex.ensures) is),
)
