use Rattle.std.proofs.Common.{◌≡◌, ◌+◌, ◌++◌, ◌∷◌, ◌∙◌, [], List, take, get_or, sym, subst, arith}
use Rattle.std.specs.List.{All}
use Rattle.std.proofs.lemmas.Grind.{common_steps}
use Rattle.std.proofs.lemmas.List.{take_more}
use Rattle.std.proofs.lemmas.List.Elements.{All-append, All-cons, All-nil}
use Rattle.git_objects.specs.Ids.{IsId}
use Rattle.git_objects.specs.declared.ids.Id.{Id}
use Rattle.git_objects.proofs.commits.Commit.append_links.Goals as goal

pub loop-parent-preserved : goal.loop-parent-preserved
loop-parent-preserved c =
    let i = c.loop-parent.parent-index in
    let parents = c.deref-parent-items.result.now in
    let Valid : Id → Type 0 = λ parent. IsId parent.0 in
    let last = get_or parents i (record { 0 = [] }) in
    let split : take (i + 1) parents ≡ take i parents ++ last ∷ [] = take_more parents i (record { 0 = [] }) (omega arith) in
    record {
      text = grind (arith, common_steps);
      ids = subst (λ (z : List Id). All Valid z) (sym split)
          (All-append Valid (take i parents) (last ∷ []) c.loop-parent.invariant.ids (All-cons Valid last [] c.in_ok-append_parent.ensures.stored (All-nil Valid)));
    }

pub returns-clause-parents : goal.returns-clause-parents
returns-clause-parents c =
    let i = c.loop-parent.parent-index in
    let parents = c.deref-parent-items.result.now in
    let whole : take i parents ≡ parents = grind (arith, common_steps) in
    subst (λ (z : List Id). All (λ parent. IsId parent.0) z) (whole ∙ c.deref-parent-items.ensures.value) c.loop-parent.invariant.ids
