use Rattle.std.proofs.Common.{ℕ, List, sym, ◌∙◌, subst}
use Rattle.std.specs.BTreeMap.{get_by_text}
use Rattle.places.specs.All.{IsPathBelow}
use Rattle.file_store.proofs.Named.{seen_away, noted}
use Rattle.file_store.proofs.memory.names.note.Goals as goal

pub returns-then-not-is_above-clause-noted : goal.returns-then-not-is_above-clause-noted
returns-then-not-is_above-clause-noted c =
    λ name. seen_away c.args.root.now c.args.place.now name (get_by_text c.args.kinds.now name) (sym c.is_above.ensures.test ∙ c.if-not-is_above.true)

pub returns-clause-noted : goal.returns-clause-noted
returns-clause-noted c =
    let root = c.args.root.now in
    let place = c.args.place.now in
    let path = c.as_str.result.now in
    let found = rw c.in-Some.is at c.in_ok-path.ensures in
    let below = subst (λ (p : List ℕ). IsPathBelow root place p) (sym c.as_str.ensures.value) found in
    noted root place path c.first_name-kind.result.0.now c.first_name-kind.result.1 c.args.kinds.now c.insert.new.self c.in_ok-from_str.field-0
    c.as_str-text.ensures.place (sym c.is_above.ensures.test ∙ c.if-not-is_above.false) below c.first_name-kind.ensures.name c.first_name-kind.ensures.kind
    c.in_ok-from_str.ensures.ok c.in_ok-insert.ensures.updates
