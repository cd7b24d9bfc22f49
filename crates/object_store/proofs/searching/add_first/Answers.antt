use Rattle.std.proofs.Common.{◌≡◌, ◌∷◌, ◌+◌, ◌++◌, ◌∙◌, [], ◌<◌, ◌||◌, ℕ, false, List, take, refl, sym, subst, arith, rules}
use Rattle.std.proofs.lemmas.Grind.{common_steps}
use Rattle.std.specs.Prelude.{nat_eq}
use Rattle.std.specs.List.{starts_with}
use Rattle.places.specs.All.{Names}
use Rattle.file_store.specs.All.{IsListing, present}
use Rattle.file_store.specs.declared.kinds.Item.{Item}
use Rattle.git_objects.specs.All.{hex_of}
use Rattle.acts.proofs.Reading.{read_gives}
use Rattle.object_store.specs.Prefixes.{Adds, is_item_with}
use Rattle.object_store.proofs.Prefixes.{IsListed, items_added, items_more, none_begin}
use Rattle.object_store.proofs.searching.add_first.Goals as goal

pub returns-then-not-agree-clause-reads : goal.returns-then-not-agree-clause-reads
returns-then-not-agree-clause-reads g c =
    let pair = sym c.pair_of-pair.ensures in
    let digits = sym c.as_bytes.ensures.value in
    let apart : (starts_with nat_eq (hex_of (c.args.first ∷ [])) c.args.digits.now || starts_with nat_eq c.args.digits.now (hex_of (c.args.first ∷ []))) ≡ false =
    (λ i. starts_with nat_eq (pair i) (digits i) || starts_with nat_eq (digits i) (pair i)) ∙ sym c.agree.ensures ∙ c.if-not-agree.true in
    read_gives refl (λ told. (refl, none_begin c.args.repo.now c.args.digits.now c.args.first (present (g.F.Files.drive c.args.files.now)) c.args.ids.now apart))

pub loop-item-preserved : goal.loop-item-preserved
loop-item-preserved g c =
    let i = c.loop-item.item-index in
    let items = c.deref-item-items.result.now in
    let more : take (i + 1) items ≡ take i items ++ c.item-item.result ∷ [] = grind (arith, common_steps) in
    record {
      adds = subst (λ (l : List Item). Adds (is_item_with c.args.digits.now c.pair_of-pair.result l) c.args.ids.now c.add.new.ids) (sym more)
          (items_more c.args.digits.now c.pair_of-pair.result (take i items) c.item-item.result c.args.ids.now c.loop-item.ids c.add.new.ids c.loop-item.invariant.adds c.in_ok-add.ensures.adds);
      begin = c.in_ok-add.ensures.begin;
    }

pub returns-clause-reads : goal.returns-clause-reads
returns-clause-reads g c =
    let ground = present (g.F.Files.drive c.args.files.now) in
    let repo = c.args.repo.now in
    let first = c.args.first in
    let items = c.in_ok-items.items.items in
    let ends = c.in_ok-items.ensures.ends in
    let small : first < 256 = search rules in
    let every : take c.loop-item.item-index c.deref-item-items.result.now ≡ c.deref-item-items.result.now = grind (arith, common_steps) in
    let all : Adds (is_item_with c.args.digits.now (hex_of (first ∷ [])) items) c.args.ids.now c.loop-item.ids =
    subst (λ (pair : List ℕ). Adds (is_item_with c.args.digits.now pair items) c.args.ids.now c.loop-item.ids) c.pair_of-pair.ensures
    (subst (λ (l : List Item). Adds (is_item_with c.args.digits.now c.pair_of-pair.result l) c.args.ids.now c.loop-item.ids) (every ∙ c.deref-item-items.ensures.value) c.loop-item.invariant.adds) in
    read_gives c.in_ok-items.ensures.later (λ told. (
      (ends.1 told).0,
      (let listed : IsListed repo first ground items =
          record { byte = small; listed = ends.0; listing = subst (λ (p : Names). IsListing ground p items) c.in_ok-place.ensures (ends.1 told).1 } in
          items_added repo first ground items listed c.args.digits.now c.args.ids.now c.loop-item.ids all),
    ))
