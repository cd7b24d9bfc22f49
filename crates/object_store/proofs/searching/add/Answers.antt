use Rattle.std.proofs.Common.{◌≡◌, ◌++◌, ◌<◌, ◌∙◌, ℕ, true, refl, sym, ap, arith, rules}
use Rattle.std.specs.Prelude.{nat_eq, slice_index}
use Rattle.std.specs.List.{starts_with}
use Rattle.std.proofs.lemmas.Grind.{common_steps}
use Rattle.git_objects.specs.All.{hex_of}
use Rattle.object_store.specs.Prefixes.{is_file}
use Rattle.object_store.proofs.Prefixes.{adds_one, begin_one}
use Rattle.object_store.proofs.searching.add.Goals as goal

pub returns-clause-adds : goal.returns-clause-adds
returns-clause-adds c =
    let whole = c.extend_from_slice.new.self.items in
    let same : whole ≡ c.args.pair.now ++ c.args.item.now.name = search rules in
    let own : (i : ℕ) → slice_index c.in-Some.id.0 i < 256 = λ i. search rules in
    let is : hex_of c.in-Some.id.0 ≡ whole = search rules in
    let begins : starts_with nat_eq whole c.args.digits.now ≡ true = search rules in
    let file : is_file c.args.item.now.kind ≡ true = ap is_file c.in-File.is in
    adds_one c.args.digits.now c.args.pair.now c.args.item.now c.args.ids.now c.insert.new.self c.in-Some.id.0 whole own is begins c.in_ok-insert.ensures.updates same file

pub returns-clause-begin : goal.returns-clause-begin
returns-clause-begin c =
    let whole = c.extend_from_slice.new.self.items in
    let own : (i : ℕ) → slice_index c.in-Some.id.0 i < 256 = λ i. search rules in
    let is : hex_of c.in-Some.id.0 ≡ whole = search rules in
    let begins : starts_with nat_eq whole c.args.digits.now ≡ true = search rules in
    begin_one c.args.digits.now c.args.pair.now c.args.item.now c.args.ids.now c.insert.new.self c.in-Some.id.0 whole own is begins c.in_ok-insert.ensures.updates c.requires
