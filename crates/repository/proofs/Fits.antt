-- The text of a repository's place, and that the places below it fit.
use Rattle.std.proofs.Common.{◌≡◌, ◌≤◌, ◌+◌, ◌∷◌, length, ap, arith, length-append}
use Rattle.std.specs.Prelude.{codes}
use Rattle.places.specs.All.{Names, slash, slashed, text_of, joined}
use Rattle.places.proofs.Cuts.{below_text}
use Rattle.repository.specs.Layout.{repo_of}

pub repo_joined : (root : Names) → joined root (codes ".dlrepo") ≡ text_of (repo_of root)
repo_joined root = below_text root (codes ".dlrepo")

-- the root's text is shorter than that of its repository
pub root_fits : (root : Names) → length (text_of (repo_of root)) ≤ 3584 → length (slashed root) + 8 ≤ 3584
root_fits root h = omega (arith, ap length (repo_joined root), length-append (slashed root) (slash ∷ codes ".dlrepo"))
