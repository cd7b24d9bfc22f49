-- Which places are those of unfinished writes.
use Rattle.std.proofs.Common.{◌≡◌, ℕ, Bool, true, false, ◌||◌, ◌&&◌, List, [], ◌∷◌, ◌++◌, take, drop, refl, sym, ap, ◌∙◌, append_assoc}
use Rattle.std.specs.Prelude.{codes, bytes_eq}
use Rattle.std.proofs.lemmas.Bool.{false≢true, false_from_ne_true}
use Rattle.std.proofs.lemmas.Slice.Eq.{bytes_eq-Decides}
use Rattle.places.specs.All.{Names, has_name}
use Rattle.places.proofs.Above.{same_bytes}
use Rattle.places.proofs.Texts.{or_neither}
use Rattle.git_objects.specs.All.{hex_of}
use Rattle.repository.specs.Layout.{dlrepo, repo_of, head_place, object_names, object_place}
use Rattle.repository.specs.Layout.{is_single, is_in, in_tmp}
use Rattle.repository.specs.Unfinished.{is_tmp, is_below_tmp, is_repo, IsOutside}

or_either : (a b : Bool) → b ≡ true → (a || b) ≡ true
or_either true b e = refl
or_either false b e = e

both_are : (a b : Bool) → (a && b) ≡ true → (a ≡ true) × (b ≡ true)
both_are true b e = (refl, e)
both_are false b e = absurd (cc e)

-- below any root
pub tmp_under : (root rest : Names) → is_tmp rest ≡ true → is_tmp (root ++ rest) ≡ true
unfolding is_tmp
tmp_under [] rest e = e
tmp_under (name ∷ root) rest e = or_either (bytes_eq name (codes ".dlrepo") && is_below_tmp (root ++ rest)) (is_tmp (root ++ rest)) (tmp_under root rest e)

-- in a repository
pub repo_tmp : (repo : Names) (name : List ℕ) → is_repo repo ≡ true → is_tmp (repo ++ codes "tmp" ∷ name ∷ []) ≡ true
unfolding is_tmp is_repo
repo_tmp [] name e = absurd (cc e)
repo_tmp (dir ∷ []) name e = ap (λ b. (b && true) || is_tmp (codes "tmp" ∷ name ∷ [])) e
repo_tmp (dir ∷ next ∷ repo) name e =
    or_either (bytes_eq dir (codes ".dlrepo") && is_below_tmp (next ∷ repo ++ codes "tmp" ∷ name ∷ [])) (is_tmp (next ∷ repo ++ codes "tmp" ∷ name ∷ [])) (repo_tmp (next ∷ repo) name e)

pub repo_below : (root : Names) → is_repo (root ++ codes ".dlrepo" ∷ []) ≡ true
unfolding is_repo
repo_below [] = refl
repo_below (a ∷ []) = refl
repo_below (a ∷ b ∷ root) = repo_below (b ∷ root)

-- what is directly in a repository's `tmp`
pub below_tmp : (root q : Names) → is_in (root ++ codes ".dlrepo" ∷ codes "tmp" ∷ []) q ≡ true → is_tmp q ≡ true
unfolding is_tmp
below_tmp [] [] e = absurd (cc e)
below_tmp [] (a ∷ []) e = absurd (cc (both_are (bytes_eq (codes ".dlrepo") a) false e).1)
below_tmp [] (a ∷ b ∷ q) e =
    let first = both_are (bytes_eq (codes ".dlrepo") a) _ e in
    let second = both_are (bytes_eq (codes "tmp") b) (is_single q) first.1 in
    let at : bytes_eq a (codes ".dlrepo") ≡ true = (bytes_eq-Decides a (codes ".dlrepo")).1 (sym ((bytes_eq-Decides (codes ".dlrepo") a).0 first.0)) in
    let dir : bytes_eq b (codes "tmp") ≡ true = (bytes_eq-Decides b (codes "tmp")).1 (sym ((bytes_eq-Decides (codes "tmp") b).0 second.0)) in
    (λ i. (at i && (dir i && second.1 i)) || is_tmp (b ∷ q))
below_tmp (name ∷ root) [] e = absurd (cc e)
below_tmp (name ∷ root) (a ∷ q) e = or_either (bytes_eq a (codes ".dlrepo") && is_below_tmp q) (is_tmp q) (below_tmp root q (both_are (bytes_eq name a) _ e).1)

-- below one root, directly in a directory
pub is_in-under : (root s t : Names) → is_in (root ++ s) (root ++ t) ≡ is_in s t
is_in-under [] s t = refl
is_in-under (x ∷ root) s t = λ i. same_bytes x i && is_in-under root s t i

-- in the unfinished writes of a repository, or outside of any
pub tmp_firm : (root q : Names) → in_tmp (repo_of root) q ≡ true → is_tmp q ≡ true
tmp_firm root q inside = below_tmp root q (sym (ap (λ (z : Names). is_in z q) (append_assoc root (dlrepo ∷ []) (codes "tmp" ∷ []))) ∙ inside)

pub firm_outside : (root q : Names) → is_tmp q ≡ false → IsOutside (repo_of root) q
firm_outside root q firm = false_from_ne_true (in_tmp (repo_of root) q) (λ inside. false≢true (sym firm ∙ tmp_firm root q inside))

-- BELOW A ROOT the unfinished writes are those of the rest
pub tmp_below_root : (root names : Names) → has_name dlrepo root ≡ false → is_tmp (root ++ names) ≡ is_tmp names
unfolding is_tmp
tmp_below_root [] names clear = refl
tmp_below_root (name ∷ root) names clear =
    let parts = or_neither (bytes_eq dlrepo name) (has_name dlrepo root) clear in
    let other : bytes_eq name dlrepo ≡ false = false_from_ne_true (bytes_eq name dlrepo) (λ is. false≢true (sym parts.0 ∙ (bytes_eq-Decides dlrepo name).1 (sym ((bytes_eq-Decides name dlrepo).0 is)))) in
    λ i. (other i && is_below_tmp (root ++ names)) || tmp_below_root root names parts.1 i

-- ---- objects and HEAD are no unfinished writes

and_none : (b : Bool) → (b && false) ≡ false
and_none true = refl
and_none false = refl

pub object_names_firm : (digits : List ℕ) → is_tmp (dlrepo ∷ object_names digits) ≡ false
unfolding is_tmp
object_names_firm digits =
    (λ i. (bytes_eq (take 2 digits) dlrepo && and_none (bytes_eq (drop 2 digits) (codes "tmp")) i) || (and_none (bytes_eq (drop 2 digits) dlrepo) i || false))
    ∙ ap (λ b. b || false) (and_none (bytes_eq (take 2 digits) dlrepo))

pub object_firm : (root : Names) (id : List ℕ) → has_name dlrepo root ≡ false → is_tmp (object_place (repo_of root) id) ≡ false
object_firm root id clear =
    ap is_tmp (append_assoc root (dlrepo ∷ []) (object_names (hex_of id)))
    ∙ tmp_below_root root (dlrepo ∷ object_names (hex_of id)) clear
    ∙ object_names_firm (hex_of id)

-- below `tmp` stands one name, and not two with another before them
not_single : (root : Names) (a b : List ℕ) → is_single (root ++ a ∷ b ∷ []) ≡ false
not_single [] a b = refl
not_single (name ∷ []) a b = refl
not_single (name ∷ next ∷ root) a b = refl

not_below : (root : Names) (b : List ℕ) → is_below_tmp (root ++ dlrepo ∷ b ∷ []) ≡ false
not_below [] b = refl
not_below (name ∷ root) b = ap (λ t. bytes_eq name (codes "tmp") && t) (not_single root dlrepo b) ∙ and_none (bytes_eq name (codes "tmp"))

-- also where the root is in a repository
head_names_firm : (root : Names) → is_tmp (root ++ dlrepo ∷ codes "HEAD" ∷ []) ≡ false
unfolding is_tmp
head_names_firm [] = refl
head_names_firm (name ∷ root) =
    (λ i. (bytes_eq name dlrepo && not_below root (codes "HEAD") i) || head_names_firm root i) ∙ ap (λ b. b || false) (and_none (bytes_eq name dlrepo))

pub head_firm : (root : Names) → is_tmp (head_place root) ≡ false
head_firm root = ap is_tmp (append_assoc root (dlrepo ∷ []) (codes "HEAD" ∷ [])) ∙ head_names_firm root
