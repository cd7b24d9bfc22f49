use Rattle.std.proofs.Common.{rules, sym, ◌∙◌, ap}
use Rattle.std.specs.BTreeMap.{IsOrdered}
use Rattle.places.specs.All.{place_cmp}
use Rattle.file_store.proofs.Laid.{laid, laid-ground_of}
use Rattle.file_store.proofs.memory.contents.cloned.Goals as goal

pub returns : goal.returns
returns c =
    let sorted : IsOrdered place_cmp c.args.files.now = search rules in
    ap (laid c.loop-place.copy) (sym c.in-None.ensures.steps.0) ∙ c.loop-place.invariant ∙ laid-ground_of c.args.files.now.entries sorted
