-- HEAD's place in a repository may be longer than places are.
use Rattle.std.proofs.Common.{◌≡◌, ◌<◌, ℕ, List, [], ◌∷◌, ◌++◌, length, Some, ap, ◌∙◌, append_assoc}
use Rattle.std.specs.Prelude.{codes}
use Rattle.places.specs.All.{Names, joined}
use Rattle.places.proofs.Cuts.{below_text}
use Rattle.faults.specs.declared.faults.Fault.{Fault}
use Rattle.faults.specs.declared.faults.Fault.TheVariants.{TooLarge}
use Rattle.repository.specs.All.{repo_of, repo_head}
use Rattle.ref_store.specs.All.{long_place}
use Rattle.ref_store.proofs.Fitting.{long_is}

-- HEAD has no place in the repository
pub no_head : (root : Names) (text : List ℕ) (fault : Fault) → text ≡ joined root (codes ".dlrepo/HEAD") → 4096 < length text → fault ≡ TooLarge text (length text)
    → long_place (repo_head (repo_of root)) ≡ Some fault
no_head root text fault is long same =
    ap long_place (append_assoc root (codes ".dlrepo" ∷ []) (codes "HEAD" ∷ []))
    ∙ long_is (root ++ codes ".dlrepo" ∷ codes "HEAD" ∷ []) text fault (is ∙ below_text root (codes ".dlrepo/HEAD")) long same
