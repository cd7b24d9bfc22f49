-- The root of the dataset in which a place lies, place by place upwards.
use Rattle.std.proofs.Common.{◌≡◌, ◌<◌, ◌≤◌, ◌++◌, ◌∷◌, [], ℕ, Bool, true, false, List, Option, Some, None, length, refl, sym, ap, ◌∙◌, subst, reverse, arith, append_assoc, if◌then◌else◌}
use Rattle.std.specs.Prelude.{nat_lt, codes}
use Rattle.std.proofs.lemmas.Bool.{false≢true}
use Rattle.std.proofs.lemmas.Bool.Decides.{nat_tests}
use Rattle.std.proofs.lemmas.List.{reverse-append, reverse-reverse}
use Rattle.places.specs.All.{Names, Ground, IsAtOrAbove, joined, longest, pieces, stands, text_of}
use Rattle.places.proofs.Cuts.{below_text}
use Rattle.repository.specs.All.{dlrepo, head_place}
use Rattle.datalad_cli.specs.Finding.{At, Location, Near, head_within, is_root, root_in, root_up, root_at}
use Rattle.datalad_cli.specs.Finding.{stands_within}

-- THE PLACE of HEAD
pub head_text : (root : Names) → joined root (codes ".dlrepo/HEAD") ≡ text_of (head_place root)
head_text root = below_text root (codes ".dlrepo/HEAD") ∙ ap (λ (p : Names). text_of p) (sym (append_assoc root (dlrepo ∷ []) (codes "HEAD" ∷ [])))

pub head_names : (root : Names) → root ++ pieces (codes ".dlrepo/HEAD") ≡ head_place root
head_names root = sym (append_assoc root (dlrepo ∷ []) (codes "HEAD" ∷ []))

is_long : (n : ℕ) → longest < n → nat_lt longest n ≡ true
is_long n h = grind (arith, nat_tests)

is_short : (n : ℕ) → n ≤ longest → nat_lt longest n ≡ false
is_short n h = grind (arith, nat_tests)

pub too_long : (root : Names) (text : List ℕ) → text ≡ text_of (head_place root) → longest < length text → head_within root ≡ None
too_long root text is h = λ i. if is_long (length (text_of (head_place root))) (subst (λ (t : List ℕ). longest < length t) is h) i then None else Some (head_place root)

pub fits : (root : Names) (text : List ℕ) → text ≡ text_of (head_place root) → length text ≤ longest → head_within root ≡ Some (head_place root)
fits root text is h = λ i. if is_short (length (text_of (head_place root))) (subst (λ (t : List ℕ). length t ≤ longest) is h) i then None else Some (head_place root)

-- UPWARDS
turned : (above : Names) (name : List ℕ) → reverse (above ++ name ∷ []) ≡ name ∷ reverse above
turned above name = reverse-append above (name ∷ [])

turned_back : (above : Names) (name : List ℕ) → reverse (name ∷ reverse above) ≡ above ++ name ∷ []
turned_back above name = ap (λ (ns : Names). reverse ns) (sym (turned above name)) ∙ reverse-reverse (above ++ name ∷ [])

here_up : (g : Ground) (ns : Names) → is_root g (reverse ns) ≡ true → root_up ns g ≡ Some (reverse ns)
here_up g [] h = λ i. if h i then Some [] else None
here_up g (name ∷ above) h = λ i. if h i then Some (reverse (name ∷ above)) else root_up above g

pub here : (g : Ground) (place : Names) → is_root g place ≡ true → root_at place g ≡ Some place
unfolding root_at
here g place h =
    here_up g (reverse place) (ap (λ (p : Names). is_root g p) (reverse-reverse place) ∙ h) ∙ ap (λ (p : Names). Some p) (reverse-reverse place)

pub nowhere : (g : Ground) (place : Names) → place ≡ [] → is_root g place ≡ false → root_at place g ≡ None
unfolding root_at
nowhere g place is h =
    subst (λ (p : Names). root_up (reverse p) g ≡ None) (sym is) (λ i. if (ap (λ (p : Names). is_root g p) (sym is) ∙ h) i then Some [] else None)

pub upwards : (g : Ground) (place above : Names) (name : List ℕ) → place ≡ above ++ name ∷ [] → is_root g place ≡ false → root_at place g ≡ root_at above g
unfolding root_at
upwards g place above name is h =
    let back : reverse (name ∷ reverse above) ≡ place = turned_back above name ∙ sym is in
    ap (λ (p : Names). root_up (reverse p) g) is ∙ ap (λ (p : Names). root_up p g) (turned above name)
    ∙ (λ i. if (ap (λ (p : Names). is_root g p) back ∙ h) i then Some (reverse (name ∷ reverse above)) else root_up (reverse above) g)

-- a place at or above the one above is at or above the place
pub higher : (root above place : Names) (name : List ℕ) → place ≡ above ++ name ∷ [] → IsAtOrAbove root above → IsAtOrAbove root place
higher root above place name is at = (at.0 ++ name ∷ [], is ∙ ap (λ (p : Names). p ++ name ∷ []) at.1 ∙ append_assoc root at.0 (name ∷ []))

-- AT A ROOT that was found HEAD stands
within_stands : (g : Ground) (root : Names) (long : Bool) → stands_within g (if long then None else Some (head_place root)) ≡ true → stands g (head_place root) ≡ true
within_stands g root true e = absurd (false≢true e)
within_stands g root false e = e

if_root : (g : Ground) (p root : Names) (rest : Option Names) → (rest ≡ Some root → is_root g root ≡ true) → (b : Bool) → is_root g p ≡ b → (if b then Some p else rest) ≡ Some root → is_root g root ≡ true
if_root g p root rest more true is e =
    let same : p ≡ root = cc e in
    subst (λ (q : Names). is_root g q ≡ true) same is
if_root g p root rest more false is e = more e

found_up : (g : Ground) (names root : Names) → root_up names g ≡ Some root → is_root g root ≡ true
found_up g [] root e = if_root g [] root None (λ none. absurd (cc none)) (is_root g []) refl e
found_up g (name ∷ above) root e = if_root g (reverse (name ∷ above)) root (root_up above g) (λ more. found_up g above root more) (is_root g (reverse (name ∷ above))) refl e

pub head_stands : (g : Ground) (place root : Names) → root_at place g ≡ Some root → stands g (head_place root) ≡ true
unfolding root_at
head_stands g place root e = within_stands g root (nat_lt longest (length (text_of (head_place root)))) (found_up g (reverse place) root e)

-- at the root in which a command works too
pub root_stands : (g : Ground) (at : Location) (root : Names) → root_in at g ≡ Some root → stands g (head_place root) ≡ true
root_stands g (Near place) root e = head_stands g place root e
root_stands g (At None index) root e = absurd (cc e)
root_stands g (At (Some place) index) root e = by (is_root g place) refl e
  where
    by : (b : Bool) → is_root g place ≡ b → (if b then Some place else None) ≡ Some root → stands g (head_place root) ≡ true
    by true is same = head_stands g place root (here g place is ∙ same)
    by false is none = absurd (cc none)
