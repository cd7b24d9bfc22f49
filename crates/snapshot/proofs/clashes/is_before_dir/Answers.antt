use Rattle.std.proofs.Common.{◌≡◌, ◌∙◌, [], ◌∷◌, refl, ap, is_lt, nat_cmp}
use Rattle.std.proofs.lemmas.Iterator.{YieldsList-from_slice}
use Rattle.std.proofs.lemmas.Iterator.Consumers.{YieldsList-from_chain}
use Rattle.std.proofs.lemmas.Iterator.Search.{cmp_from_yields_List}
use Rattle.places.specs.All.{slash}
use Rattle.snapshot.proofs.clashes.is_before_dir.Goals as goal

pub returns : goal.returns
returns c =
    c.is_lt.ensures
    ∙ ap is_lt (cmp_from_yields_List (λ x y. y ≡ x) _ nat_cmp _ c.cmp.ensures.ran
    (YieldsList-from_slice c.args.entry.now.path (cc))
    (λ it e. YieldsList-from_chain (YieldsList-from_slice c.args.path.now (cc)) (YieldsList-from_slice (slash ∷ []) (cc)) (cc) (cc)) (λ x y. refl))
