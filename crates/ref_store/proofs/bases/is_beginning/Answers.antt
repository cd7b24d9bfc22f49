use Rattle.std.proofs.Common.{rules, ◌≡◌, ◌≤◌, ◌&&◌, ℕ, true, List, length, sym, ◌∙◌, arith}
use Rattle.std.specs.Prelude.{nat_le}
use Rattle.std.specs.Char.{is_ascii_hexdigit}
use Rattle.std.specs.List.{list_all}
use Rattle.std.proofs.lemmas.Iterator.{YieldsList-from_slice}
use Rattle.std.proofs.lemmas.Iterator.Search.{all_from_yields_List}
use Rattle.std.proofs.lemmas.Bool.Decides.{nat_tests}
use Rattle.ref_store.proofs.bases.is_beginning.Goals as goal

both : (text : List ℕ) → 4 ≤ length text → length text ≤ 39 → (nat_le 4 (length text) ≡ true) × (nat_le (length text) 39 ≡ true)
both text low high = (grind (arith, nat_tests), grind (arith, nat_tests))

pub returns : goal.returns
returns c =
    let text = c.args.text.now in
    let low : 4 ≤ length text = search rules in
    let high : length text ≤ 39 = search rules in
    let fits = both text low high in
    all_from_yields_List is_ascii_hexdigit _ _ c.all.result c.all.ensures.ran (YieldsList-from_slice text (search rules)) (λ x b q k. search rules)
    ∙ sym (λ i. fits.0 i && fits.1 i && list_all is_ascii_hexdigit text)
