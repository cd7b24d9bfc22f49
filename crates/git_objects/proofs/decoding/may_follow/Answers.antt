use Rattle.std.proofs.Common.{◌∙◌, not, ap, sym}
use Rattle.git_objects.proofs.Twins.{push_unnamed, push_above, push_alone, ascending_from_tree}
use Rattle.git_objects.proofs.decoding.may_follow.Goals as goal

pub returns-then-not-is_entry : goal.returns-then-not-is_entry
returns-then-not-is_entry c = push_unnamed c.args.entries.now c.args.entry.now (sym c.is_entry.ensures ∙ c.if-not-is_entry.true)

pub returns-then-not-sorts_below : goal.returns-then-not-sorts_below
returns-then-not-sorts_below c =
    let item = c.in-Some.ensures.item.3 in
    let last = c.in-Some.last.now in
    push_above c.args.entries.now last c.args.entry.now last c.requires (sym c.is_entry.ensures ∙ c.if-not-is_entry.false) item.0 (item.1 last) (sym c.sorts_below.ensures ∙ c.if-not-sorts_below.true)

pub is_twin-requires : goal.is_twin-requires
is_twin-requires c = ascending_from_tree c.args.entries.now c.requires

pub returns : goal.returns
returns c =
    let item = c.in-Some.ensures.item.3 in
    let last = c.in-Some.last.now in
    ap not c.is_twin.ensures
    ∙ push_alone c.args.entries.now last c.args.entry.now last c.requires (sym c.is_entry.ensures ∙ c.if-not-is_entry.false) item.0 (item.1 last) (sym c.sorts_below.ensures ∙ c.if-not-sorts_below.false)
