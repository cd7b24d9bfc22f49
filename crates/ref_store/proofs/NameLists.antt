-- The set of names as a list.
use Rattle.std.proofs.Common.{◌≡◌, ℕ, Bool, true, false, ◌&&◌, ◌||◌, List, [], ◌∷◌, map, Some, refl, sym, ap, ◌∙◌, subst}
use Rattle.std.specs.Prelude.{String, string_bytes, bytes_eq}
use Rattle.std.specs.declared.alloc.Global.{Global}
use Rattle.std.specs.BTreeMap.{is_at}
use Rattle.std.specs.BTreeSet.{BTreeSet, IsOrdered}
use Rattle.std.specs.Cmp.Lexicographic.{slice_cmp}
use Rattle.std.specs.declared.cmp.Ordering.TheVariants.{Less}
use Rattle.std.specs.List.Sorted.{IsStrictlySortedBy}
use Rattle.std.specs.Ordering.{nat_cmp}
use Rattle.std.specs.String.{string_cmp}
use Rattle.std.specs.List.{AllByRecursion, list_all, list_any}
use Rattle.std.proofs.lemmas.Bool.{false_from_ne_true}
use Rattle.std.proofs.lemmas.Map.Text.{is_eq-slice_cmp}
use Rattle.std.proofs.lemmas.Slice.Eq.{bytes_eq-Decides}
use Rattle.places.specs.All.{Names, Ground, IsGround, pieces}
use Rattle.faults.specs.declared.faults.Fault.{Fault}
use Rattle.repository.specs.All.{is_branch}
use Rattle.ref_store.specs.Branches.{AreBranches, AreNames}
use Rattle.ref_store.specs.Listing.{AddsNames, AllBranches, begins_branch, heads_at}
use Rattle.ref_store.specs.Reading.{long_place}
use Rattle.ref_store.specs.Revisions.{has_branch}
use Rattle.ref_store.proofs.Below.{begin_is, too_long}

-- no names at all
pub no_names : AreNames []
unfolding IsStrictlySortedBy
no_names = record { ascending = tt; named = refl }

-- no branch has a place
pub no_branches : (repo : Names) (g : Ground) (ground : IsGround g) (fault : Fault) → long_place (heads_at repo []) ≡ Some fault → AreBranches repo g []
no_branches repo g ground fault long = record {
  form = no_names;
  among = λ name. sym (false_from_ne_true _ (λ has. too_long repo g ground [] (pieces name) name fault refl long has));
}

after_all : (k : String Global) (ks : List (String Global)) → AllByRecursion (λ y. string_cmp k y ≡ Less) ks → AllByRecursion (λ t. slice_cmp nat_cmp (string_bytes k) t ≡ Less) (map (λ (name : String Global). string_bytes name) ks)
after_all k [] less = tt
after_all k (l ∷ ks) less = (less.0, after_all k ks less.1)

ascends : (ks : List (String Global)) → IsStrictlySortedBy string_cmp ks → IsStrictlySortedBy (slice_cmp nat_cmp) (map (λ (name : String Global). string_bytes name) ks)
unfolding IsStrictlySortedBy
ascends [] sorted = tt
ascends (k ∷ ks) sorted = (after_all k ks sorted.0, ascends ks sorted.1)

abbrev is_same : List ℕ → String Global → Bool
is_same name = is_at (λ (k : String Global). slice_cmp nat_cmp name (string_bytes k))

among_keys : (name : List ℕ) (ks : List (String Global)) → list_any (bytes_eq name) (map (λ (k : String Global). string_bytes k) ks) ≡ list_any (is_same name) ks
among_keys name [] = refl
among_keys name (k ∷ ks) = λ i. sym (is_eq-slice_cmp name (string_bytes k)) i || among_keys name ks i

all_keys : (ks : List (String Global)) → ((name : List ℕ) → list_any (is_same name) ks ≡ true → is_branch name ≡ true) → list_all is_branch (map (λ (k : String Global). string_bytes k) ks) ≡ true
all_keys [] h = refl
all_keys (k ∷ ks) h = both _ _
    (h (string_bytes k) (ap (λ b. b || list_any (is_same (string_bytes k)) ks) (is_eq-slice_cmp (string_bytes k) (string_bytes k) ∙ (bytes_eq-Decides (string_bytes k) (string_bytes k)).1 refl)))
    (all_keys ks (λ name e. h name (later (is_same name k) _ e)))
  where
    both : (a b : Bool) → a ≡ true → b ≡ true → (a && b) ≡ true
    both a b x y = λ i. x i && y i

    later : (a b : Bool) → b ≡ true → (a || b) ≡ true
    later true b h = refl
    later false b h = h

pub are_names : (list : List (List ℕ)) (names : BTreeSet (String Global)) → list ≡ map (λ (name : String Global). string_bytes name) names.keys → IsOrdered string_cmp names → AllBranches names → AreNames list
are_names list names is ordered all = record {
  ascending = subst (λ (l : List (List ℕ)). IsStrictlySortedBy (slice_cmp nat_cmp) l) (sym is) (ascends names.keys ordered);
  named = ap (list_all is_branch) is ∙ all_keys names.keys (λ name h. all.each name h);
}

pub are_branches : (repo : Names) (g : Ground) (list : List (List ℕ)) (none names : BTreeSet (String Global)) → none.keys ≡ [] → list ≡ map (λ (name : String Global). string_bytes name) names.keys → AreNames list → AddsNames (begins_branch repo [] g) none names → AreBranches repo g list
are_branches repo g list none names empty is form adds = record {
  form = form;
  among = λ name.
      ap (list_any (bytes_eq name)) is ∙ among_keys name names.keys ∙ adds.each name
      ∙ ap (λ (ks : List (String Global)). list_any (is_same name) ks || begins_branch repo [] g name) empty
      ∙ ap (λ b. b && has_branch repo name g) (begin_is [] name);
}
