-- A root of words has no component `.dlrepo`.
use Rattle.std.proofs.Common.{◌≡◌, ℕ, Bool, true, false, not, if◌then◌else◌, List, [], ◌∷◌, Some, None, refl, subst}
use Rattle.places.specs.All.{Names, has_name, target}
use Rattle.places.proofs.Texts.{and_both, not_true}
use Rattle.repository.specs.All.{dlrepo}
use Rattle.datalad_cli.specs.Words.{is_place, may_be_made, leads}

made_clear : (p : Names) → may_be_made p ≡ true → has_name dlrepo p ≡ false
unfolding may_be_made
made_clear p h = not_true (has_name dlrepo p) (and_both (is_place p) (not (has_name dlrepo p)) h).1

if_clear : (t : Bool) (p root : Names) → may_be_made p ≡ t → (if t then Some p else None) ≡ Some root → has_name dlrepo root ≡ false
if_clear true p root m e =
    let same : p ≡ root = cc e in
    subst (λ (r : Names). has_name dlrepo r ≡ false) same (made_clear p m)
if_clear false p root m e = absurd (cc e)

pub leads_clear : (cwd : Names) (word : List ℕ) (root : Names) → leads cwd word ≡ Some root → has_name dlrepo root ≡ false
leads_clear cwd [] root e = absurd (cc e)
leads_clear cwd (b ∷ word) root e = if_clear (may_be_made (target cwd (b ∷ word))) (target cwd (b ∷ word)) root refl e
