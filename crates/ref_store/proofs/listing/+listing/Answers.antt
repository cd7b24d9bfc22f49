use Rattle.std.proofs.Common.{◌≡◌, ◌≤◌, ◌<◌, ◌+◌, ◌++◌, ◌∷◌, ◌∙◌, [], List, ℕ, true, false, Some, length, take, drop, refl, ap, sym, subst, arith, rules}
use Rattle.std.specs.Prelude.{string_bytes}
use Rattle.std.proofs.lemmas.Grind.{common_steps}
use Rattle.std.proofs.lemmas.List.{take-append-drop}
use Rattle.places.specs.All.{Ground, pieces, slash}
use Rattle.file_store.specs.All.{History, kind_at, is_item_name, listed_kind, present}
use Rattle.file_store.specs.declared.kinds.Item.{Item}
use Rattle.acts.proofs.Reading.{read_gives}
use Rattle.ref_store.specs.Listing.{AddsNames, IsBelow, begins_branch, can_hold, heads_at, is_under}
use Rattle.ref_store.specs.Reading.{long_place}
use Rattle.ref_store.proofs.Below.{none_held, none_placed, walked}
use Rattle.ref_store.proofs.Gathering.{dir_taken, item_kind, item_named, memory_reads, other_taken, read_as, under_more}
use Rattle.ref_store.proofs.HeldPaths.{held_below, held_is_path, held_longer, held_short}
use Rattle.ref_store.proofs.listing.+listing.Goals as goal

pub take_item-returns-in_default : goal.take_item-returns-in_default
take_item-returns-in_default g t c =
    let repo = c.args.repo.now in
    let front = c.args.front.now in
    let item = c.args.item.now in
    let ground = present (g.F.Files.drive c.args.files.now) in
    let path = string_bytes c.push_str.new.self in
    let whole : path ≡ front ++ item.name = c.in_ok-push_str.ensures.bytes ∙ (λ i. c.in_ok-path.ensures.ok i ++ c.as_str.ensures.value i) in
    record {
      reads = memory_reads _ c.add.result c.add.ensures.adds c.add.ensures.halts
          (λ adds told. other_taken repo ground (g.met.F.Files.grounded c.args.files.now told) front path item c.args.names.now c.add.new.names c.requires.1.1.1.0 whole c.in_default.not-Dir (adds ground));
      named = c.add.ensures.named;
    }

pub take_item-returns-then-not-can_hold-clause-reads : goal.take_item-returns-then-not-can_hold-clause-reads
take_item-returns-then-not-can_hold-clause-reads g t c =
    let repo = c.args.repo.now in
    let front = c.args.front.now in
    let item = c.args.item.now in
    let ground = present (g.F.Files.drive c.args.files.now) in
    let path = string_bytes c.push_str.new.self in
    let whole : path ≡ front ++ item.name = c.in_ok-push_str.ensures.bytes ∙ (λ i. c.in_ok-path.ensures.ok i ++ c.as_str.ensures.value i) in
    let names = c.args.names.now in
    let closed : can_hold path ≡ false = ap can_hold (sym c.as_str-2.ensures.value) ∙ sym c.can_hold.ensures ∙ c.if-not-can_hold.true in
    read_gives (omega arith) (λ told.
    let grounded = g.met.F.Files.grounded c.args.files.now told in
    (refl, dir_taken repo ground grounded front path item names names c.requires.1.1.1.0 whole c.in-Dir.is (none_held repo ground grounded path names closed)))

pub take_item-place_of-requires : goal.take_item-place_of-requires
take_item-place_of-requires g t c =
    held_is_path c.as_str-3.result.now (ap can_hold (c.as_str-3.ensures.value ∙ sym c.as_str-2.ensures.value) ∙ sym c.can_hold.ensures ∙ c.if-not-can_hold.false)

pub take_item-returns-in_default-2-clause-reads : goal.take_item-returns-in_default-2-clause-reads
take_item-returns-in_default-2-clause-reads g t c =
    let repo = c.args.repo.now in
    let front = c.args.front.now in
    let item = c.args.item.now in
    let ground = present (g.F.Files.drive c.args.files.now) in
    let path = string_bytes c.push_str.new.self in
    let whole : path ≡ front ++ item.name = c.in_ok-push_str.ensures.bytes ∙ (λ i. c.in_ok-path.ensures.ok i ++ c.as_str.ensures.value i) in
    let names = c.args.names.now in
    let long = rw c.in_default-2.is at c.in_ok-place.ensures.found in
    let at : long_place (heads_at repo (pieces path)) ≡ Some long.0 = ap (λ (p : List ℕ). long_place (heads_at repo (pieces p))) (sym c.as_str-3.ensures.value) ∙ long.1 in
    read_gives (omega arith) (λ told.
    let grounded = g.met.F.Files.grounded c.args.files.now told in
    (refl, dir_taken repo ground grounded front path item names names c.requires.1.1.1.0 whole c.in-Dir.is (none_placed repo ground grounded path names long.0 at)))

pub take_item-walk-requires : goal.take_item-walk-requires
take_item-walk-requires g t c =
    let repo = c.args.repo.now in
    let front = c.args.front.now in
    let item = c.args.item.now in
    let ground = present (g.F.Files.drive c.args.files.now) in
    let path = string_bytes c.push_str.new.self in
    let whole : path ≡ front ++ item.name = c.in_ok-push_str.ensures.bytes ∙ (λ i. c.in_ok-path.ensures.ok i ++ c.as_str.ensures.value i) in
    let inner = c.as_str-4.result.now in
    let held : can_hold path ≡ true = ap can_hold (sym c.as_str-2.ensures.value) ∙ sym c.can_hold.ensures ∙ c.if-not-can_hold.false in
    let found = rw c.in-Some.is at c.in_ok-place.ensures.found in
    let is : inner ≡ path ++ slash ∷ [] = c.as_str-4.ensures.value ∙ c.in_ok-push_str-2.ensures.bytes in
    let at : c.in-Some.place ≡ heads_at repo (pieces path) = found.1 ∙ ap (λ (p : List ℕ). heads_at repo (pieces p)) c.as_str-3.ensures.value in
    let below : IsBelow repo c.in-Some.place inner = held_below repo c.in-Some.place path inner held is at in
    let short : length inner ≤ 200 = held_short path inner held is in
    let more : length front < length inner = held_longer front item.name path inner whole is in
    search rules

pub take_item-returns-clause-reads : goal.take_item-returns-clause-reads
take_item-returns-clause-reads g t c =
    let repo = c.args.repo.now in
    let front = c.args.front.now in
    let item = c.args.item.now in
    let ground = present (g.F.Files.drive c.args.files.now) in
    let path = string_bytes c.push_str.new.self in
    let whole : path ≡ front ++ item.name = c.in_ok-push_str.ensures.bytes ∙ (λ i. c.in_ok-path.ensures.ok i ++ c.as_str.ensures.value i) in
    let inner = c.as_str-4.result.now in
    let is : inner ≡ path ++ slash ∷ [] = c.as_str-4.ensures.value ∙ c.in_ok-push_str-2.ensures.bytes in
    read_as c.walk.result (λ told _ adds.
    dir_taken repo ground (g.met.F.Files.grounded c.args.files.now told) front path item c.args.names.now c.walk.new.names c.requires.1.1.1.0 whole c.in-Dir.is
    (subst (λ (f : List ℕ). AddsNames (begins_branch repo f ground) c.args.names.now c.walk.new.names) is adds))
    c.walk.ensures.reads

pub walk-take_item-requires : goal.walk-take_item-requires
walk-take_item-requires g t c =
    let repo = c.args.repo.now in
    let front = c.args.front.now in
    let i = c.loop-item.item-index in
    let items = c.deref-item-items.result.now in
    let x = c.item-item.result in
    let rest : drop i items ≡ x ∷ drop (i + 1) items = grind (arith, common_steps) in
    let split : c.in_ok-items.items.items ≡ take i items ++ x ∷ drop (i + 1) items =
    sym c.deref-item-items.ensures.value ∙ sym (take-append-drop i items) ∙ ap (λ (z : List Item). take i items ++ z) rest in
    let named : is_item_name x.name ≡ true = item_named c.in_ok-items.items.items (take i items) (drop (i + 1) items) x split c.in_ok-items.ensures.ends.0.names in
    search rules

pub walk-loop-item-preserved : goal.walk-loop-item-preserved
walk-loop-item-preserved g t c =
    let drive = g.F.Files.drive in
    let repo = c.args.repo.now in
    let front = c.args.front.now in
    let i = c.loop-item.item-index in
    let items = c.deref-item-items.result.now in
    let x = c.item-item.result in
    let rest : drop i items ≡ x ∷ drop (i + 1) items = grind (arith, common_steps) in
    let split : c.in_ok-items.items.items ≡ take i items ++ x ∷ drop (i + 1) items =
    sym c.deref-item-items.ensures.value ∙ sym (take-append-drop i items) ∙ ap (λ (z : List Item). take i items ++ z) rest in
    let more : take (i + 1) items ≡ take i items ++ x ∷ [] = grind (arith, common_steps) in
    let inv = c.loop-item.invariant in
    let took = c.in_ok-take_item.ensures.reads in
    let ends = c.in_ok-items.ensures.ends in
    let own : listed_kind x.name c.in_ok-items.items.items ≡ x.kind = item_kind c.in_ok-items.items.items (take i items) (drop (i + 1) items) x split ends.0.ascending in
    record {
      later = omega (arith, inv.later, took.later);
      same = λ told. (took.told told).same ∙ inv.same told;
      adds = λ told.
          let ground = present (drive c.args.files.now) in
          let now_is : present (drive c.loop-item.files) ≡ ground = ap (λ (h : History). h.latest.now) (inv.same told) in
          let kind : x.kind ≡ kind_at ground (c.args.place.now ++ x.name ∷ []) = sym own ∙ (ends.1 told).1 x.name in
          let one : AddsNames (is_under repo front ground (x ∷ [])) c.loop-item.names c.take_item.new.names =
          subst (λ (gr : Ground). AddsNames (is_under repo front gr (x ∷ [])) c.loop-item.names c.take_item.new.names) now_is
          ((took.told told).answer c.args.place.now c.requires.1.1.1.0 (kind ∙ ap (λ (gr : Ground). kind_at gr (c.args.place.now ++ x.name ∷ [])) (sym now_is))) in
          subst (λ (l : List Item). AddsNames (is_under repo front ground l) c.args.names.now c.take_item.new.names) (sym more)
          (under_more repo front ground (take i items) x c.args.names.now c.loop-item.names c.take_item.new.names (inv.adds told) one);
      named = c.in_ok-take_item.ensures.named;
    }

pub walk-returns-clause-reads : goal.walk-returns-clause-reads
walk-returns-clause-reads g t c =
    let repo = c.args.repo.now in
    let front = c.args.front.now in
    let i = c.loop-item.item-index in
    let items = c.deref-item-items.result.now in
    let ground = present (g.F.Files.drive c.args.files.now) in
    let every : take i items ≡ items = grind (arith, common_steps) in
    let inv = c.loop-item.invariant in
    let ends = c.in_ok-items.ensures.ends in
    read_gives inv.later (λ told. (
      inv.same told,
      walked repo ground (g.met.F.Files.grounded c.args.files.now told) c.args.place.now front c.in_ok-items.items.items c.requires.1.1.1.0 ends.0 (ends.1 told).1 c.args.names.now c.loop-item.names
          (subst (λ (l : List Item). AddsNames (is_under repo front ground l) c.args.names.now c.loop-item.names) (every ∙ c.deref-item-items.ensures.value) (inv.adds told)),
    ))
