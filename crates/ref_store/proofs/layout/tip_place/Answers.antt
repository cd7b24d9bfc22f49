use Rattle.std.proofs.Common.{rules, ◌≡◌, ℕ, true, List, Option, length, ap, subst, ◌∙◌, arith}
use Rattle.places.specs.All.{is_path}
use Rattle.places.proofs.Cuts.{base_le}
use Rattle.repository.specs.All.{is_branch}
use Rattle.repository.proofs.BranchNames.{branch_is_path}
use Rattle.ref_store.specs.Forms.{branch_of, IsNamed}
use Rattle.ref_store.specs.Layout.{branch_path}
use Rattle.ref_store.proofs.Fitting.{branch_path_size}
use Rattle.ref_store.proofs.layout.tip_place.Goals as goal

pub below-requires-clause-path : goal.below-requires-clause-path
below-requires-clause-path c =
    let named : is_branch c.in-Branch.name ≡ true = subst (λ (o : Option (List ℕ)). IsNamed o) (ap branch_of c.in-Branch.is) c.requires.named in
    let text : c.as_str.result.now ≡ branch_path c.in-Branch.name = search rules in
    ap is_path text ∙ branch_is_path c.in-Branch.name named

pub below-requires-clause-fits : goal.below-requires-clause-fits
below-requires-clause-fits c =
    let named : is_branch c.in-Branch.name ≡ true = subst (λ (o : Option (List ℕ)). IsNamed o) (ap branch_of c.in-Branch.is) c.requires.named in
    let text : c.as_str.result.now ≡ branch_path c.in-Branch.name = search rules in
    omega (arith, base_le c.args.repo.now, ap length text, branch_path_size c.in-Branch.name named)
