-- Where a word leads: the tests of a place that may be made, and the grammar of places.
use Rattle.std.proofs.Common.{◌≡◌, ◌<◌, ◌≤◌, ℕ, Bool, true, false, not, ◌&&◌, List, [], ◌∷◌, length, Some, None, refl, arith, if◌then◌else◌}
use Rattle.std.specs.Prelude.{nat_le}
use Rattle.std.proofs.lemmas.Bool.Decides.{nat_tests}
use Rattle.std.specs.List.{list_all}
use Rattle.places.specs.All.{Names, IsPlace, is_name, text_of, longest, target, has_name}
use Rattle.places.proofs.Texts.{and_both, all_names, names_all}
use Rattle.repository.specs.All.{dlrepo}
use Rattle.datalad_cli.specs.Words.{is_place, may_be_made, leads, place_by}

short : (n : ℕ) → n ≤ longest → nat_le n longest ≡ true
short n h = grind (arith, nat_tests)

is_short : (n : ℕ) → nat_le n longest ≡ true → n ≤ longest
is_short n h = grind (arith, nat_tests)

-- the test of a place, both ways

place_is : (ns : Names) → IsPlace ns → is_place ns ≡ true
unfolding is_place
place_is ns h = λ i. names_all ns h.names i && short (length (text_of ns)) h.fits i

is_one : (ns : Names) → is_place ns ≡ true → IsPlace ns
unfolding is_place
is_one ns h =
    let both = and_both (list_all is_name ns) (nat_le (length (text_of ns)) longest) h in
    record { names = all_names ns both.0; fits = is_short (length (text_of ns)) both.1 }

never_true : (b : Bool) → (b ≡ true → ⊥) → b ≡ false
never_true true h = absurd (h refl)
never_true false h = refl

no_place : (ns : Names) → (IsPlace ns → ⊥) → is_place ns ≡ false
no_place ns h = never_true (is_place ns) (λ e. h (is_one ns e))

may : (ns : Names) → IsPlace ns → has_name dlrepo ns ≡ false → may_be_made ns ≡ true
unfolding may_be_made
may ns h k = λ i. place_is ns h i && not (k i)

may_not : (ns : Names) → IsPlace ns → has_name dlrepo ns ≡ true → may_be_made ns ≡ false
unfolding may_be_made
may_not ns h k = λ i. place_is ns h i && not (k i)

may_not_at : (ns : Names) → (IsPlace ns → ⊥) → may_be_made ns ≡ false
unfolding may_be_made
may_not_at ns h = λ i. no_place ns h i && not (has_name dlrepo ns)

-- THE LAWS of leads

pub leads_there : (cwd : Names) (word : List ℕ) → 0 < length word → IsPlace (target cwd word) → has_name dlrepo (target cwd word) ≡ false
    → leads cwd word ≡ Some (target cwd word)
leads_there cwd [] some h k = absurd (omega arith)
leads_there cwd (b ∷ word) some h k = λ i. if may (target cwd (b ∷ word)) h k i then Some (target cwd (b ∷ word)) else None

pub leads_inside : (cwd : Names) (word : List ℕ) → IsPlace (target cwd word) → has_name dlrepo (target cwd word) ≡ true → leads cwd word ≡ None
leads_inside cwd [] h k = refl
leads_inside cwd (b ∷ word) h k = λ i. if may_not (target cwd (b ∷ word)) h k i then Some (target cwd (b ∷ word)) else None

pub leads_nowhere : (cwd : Names) (word : List ℕ) → (0 < length word → IsPlace (target cwd word) → ⊥) → leads cwd word ≡ None
leads_nowhere cwd [] h = refl
leads_nowhere cwd (b ∷ word) h = λ i. if may_not_at (target cwd (b ∷ word)) (h (omega arith)) i then Some (target cwd (b ∷ word)) else None

-- THE LAWS of the place to which a word leads
pub place_there : (cwd : Names) (word : List ℕ) → 0 < length word → IsPlace (target cwd word) → place_by cwd word ≡ Some (target cwd word)
place_there cwd [] some h = absurd (omega arith)
place_there cwd (b ∷ word) some h = λ i. if place_is (target cwd (b ∷ word)) h i then Some (target cwd (b ∷ word)) else None

pub place_nowhere : (cwd : Names) (word : List ℕ) → (0 < length word → IsPlace (target cwd word) → ⊥) → place_by cwd word ≡ None
place_nowhere cwd [] h = refl
place_nowhere cwd (b ∷ word) h = λ i. if no_place (target cwd (b ∷ word)) (h (omega arith)) i then Some (target cwd (b ∷ word)) else None
