use Rattle.std.proofs.Common.{rules, ◌≡◌, ℕ, List, Option, Some, sym, ap, subst, ◌∙◌}
use Rattle.std.specs.Borrow.{Bor}
use Rattle.std.specs.Prelude.{option_map}
use Rattle.std.specs.Str.{IsUtf8}
use Rattle.repository.specs.All.{branch_in}
use Rattle.repository.proofs.HeadTexts.{branch_in-only}
use Rattle.repository.proofs.BranchNames.{branch_utf8}
use Rattle.ref_store.proofs.forms.head_given.Goals as goal

pub unwrap-name-requires : goal.unwrap-name-requires
unwrap-name-requires c =
    let name = c.in-Some-branch_in.name.now in
    let is : branch_in c.args.text.now ≡ Some name = sym c.branch_in.ensures ∙ ap (λ (o : Option (Bor (List ℕ))). option_map (λ (n : Bor (List ℕ)). n.now) o) c.in-Some-branch_in.is in
    let bytes : c.in_ok-from_slice-in-Some-branch_in.field-0.items ≡ name = search rules in
    c.from_utf8.ensures.succeeds (subst (λ (t : List ℕ). IsUtf8 t) (sym bytes) (branch_utf8 name (branch_in-only c.args.text.now name is).1))
