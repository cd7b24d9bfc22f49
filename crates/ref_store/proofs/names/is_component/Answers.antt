use Rattle.std.proofs.Common.{rules, ◌≡◌, ℕ, ◌==◌, Bool, true, false, not, ◌&&◌, List, length, sym, ap, ◌∙◌, arith}
use Rattle.std.specs.Prelude.{codes, nat_lt, nat_eq}
use Rattle.std.specs.List.{list_all, starts_with, ends_with}
use Rattle.std.proofs.lemmas.Iterator.{YieldsList-from_slice}
use Rattle.std.proofs.lemmas.Iterator.Search.{all_from_yields_List}
use Rattle.repository.specs.All.{is_branch_byte}
use Rattle.ref_store.proofs.names.is_component.Goals as goal

at_end : (a b s t e : Bool) → a ≡ true → b ≡ true → s ≡ false → t ≡ false → not e ≡ (a && b && not s && not t && not e)
at_end a b s t e ha hb hs ht = sym (λ i. ha i && hb i && not (hs i) && not (ht i) && not e)

some : (part : List ℕ) → (length part == 0) ≡ false → nat_lt 0 (length part) ≡ true
some part h = grind arith

pub returns : goal.returns
returns c =
    let part = c.args.part.now in
    let filled : (length part == 0) ≡ false = search rules in
    let ran : c.all.result ≡ true = search rules in
    let all : list_all is_branch_byte part ≡ true =
    sym (all_from_yields_List is_branch_byte _ _ c.all.result c.all.ensures.ran (YieldsList-from_slice part (search rules)) (λ x b q k. search rules)) ∙ ran in
    let dot : starts_with nat_eq part (codes ".") ≡ false = search rules in
    let dash : starts_with nat_eq part (codes "-") ≡ false = search rules in
    let lock : c.ends_with.result ≡ ends_with nat_eq part (codes ".lock") = search rules in
    ap not lock ∙ at_end (nat_lt 0 (length part)) (list_all is_branch_byte part) (starts_with nat_eq part (codes ".")) (starts_with nat_eq part (codes "-")) (ends_with nat_eq part (codes ".lock")) (some part filled) all dot dash
