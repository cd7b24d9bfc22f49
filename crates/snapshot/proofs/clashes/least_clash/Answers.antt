use Rattle.std.proofs.Common.{◌≡◌, ◌∙◌, sym, ap, subst}
use Rattle.std.proofs.lemmas.Bool.{false≢true}
use Rattle.snapshot.specs.Order.{HasBelow}
use Rattle.snapshot.specs.declared.entries.Entry.{Entry}
use Rattle.snapshot.proofs.Apart.{one_more, least, no_clash_left}
use Rattle.snapshot.proofs.clashes.least_clash.Goals as goal

pub returns-then-has_below : goal.returns-then-has_below
returns-then-has_below c =
    let entries = c.args.entries.now in
    let i = c.loop-entry.entry-index in
    let x = c.entry-item.result in
    let there = c.has_below.ensures.0 c.if-has_below.true in
    let own : HasBelow entries x.path = subst (HasBelow entries) c.as_str.ensures.value there in
    let path : c.new.result ≡ x.path = c.new.ensures ∙ c.in_ok-path.ensures.ok ∙ c.as_str-then-has_below.ensures.value in
    least entries i x c.new.result c.requires c.loop-entry-test.true (path ∙ ap (λ (z : Entry). z.path) c.entry-item.is) c.loop-entry.invariant (subst (λ (z : Entry). HasBelow entries z.path) c.entry-item.is own)

pub loop-entry-preserved : goal.loop-entry-preserved
loop-entry-preserved c =
    let entries = c.args.entries.now in
    let x = c.entry-item.result in
    one_more entries c.loop-entry.entry-index x c.entry-item.is
    (λ has. false≢true (sym c.if-has_below.false ∙ c.has_below.ensures.1 (subst (HasBelow entries) (sym c.as_str.ensures.value) has))) c.loop-entry-test.true c.loop-entry.invariant

pub returns : goal.returns
returns c = no_clash_left c.args.entries.now c.loop-entry.entry-index c.loop-entry-test.false c.loop-entry.invariant
