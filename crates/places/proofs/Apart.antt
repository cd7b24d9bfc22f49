-- Places of which neither is the other or lies above it.
use Rattle.std.proofs.Common.{◌≡◌, ◌≢◌, inl, inr, ℕ, true, false, not, ◌&&◌, ◌||◌, List, [], ◌∷◌, ◌++◌, refl, sym, ap, ◌∙◌, append-nil}
use Rattle.std.specs.Prelude.{bytes_eq}
use Rattle.std.specs.Ordering.{ordering_then}
use Rattle.std.proofs.lemmas.Bool.{cases_Bool, false≢true}
use Rattle.std.proofs.lemmas.Cmp.{nat_list_cmp_total, tied_itself}
use Rattle.std.proofs.lemmas.Slice.Eq.{bytes_eq-Decides}
use Rattle.places.specs.Names.{Names, IsAbove, IsAtOrAbove, is_above, IsApart, are_apart}
use Rattle.places.specs.Order.{names_cmp, place_eq}
use Rattle.places.proofs.Grammar.{or_right}
use Rattle.places.proofs.Above.{same_bytes, comparable, is_above-sound, not_above, at_or_above-cases, above-at, above-under, apart-under, at_or_above-over}
use Rattle.places.proofs.Grounds.{cases_place}

-- ONE ROOT: two places below it are the same, and in order, as their rests are
pub place_eq-under : (root s t : Names) → place_eq (root ++ s) (root ++ t) ≡ place_eq s t
place_eq-under [] s t = refl
place_eq-under (x ∷ root) s t = λ i. same_bytes x i && place_eq-under root s t i

pub names_cmp-under : (root s t : Names) → names_cmp (root ++ s) (root ++ t) ≡ names_cmp s t
names_cmp-under [] s t = refl
names_cmp-under (x ∷ root) s t = ap (λ o. ordering_then o (names_cmp (root ++ s) (root ++ t))) (tied_itself nat_list_cmp_total x) ∙ names_cmp-under root s t

pub are_apart-under : (root s t : Names) → are_apart (root ++ s) (root ++ t) ≡ are_apart s t
are_apart-under [] s t = refl
are_apart-under (x ∷ root) s t = λ i. not (same_bytes x i) || are_apart-under root s t i

pub apart-cancel : (root s t : Names) → IsApart (root ++ s) (root ++ t) → IsApart s t
apart-cancel root s t apart = record {
  differ = λ e. apart.differ (ap (λ (z : Names). root ++ z) e);
  below = λ a. apart.below (above-under root s t a);
  above = λ a. apart.above (above-under root t s a);
}

pub apart-swap : (p q : Names) → IsApart p q → IsApart q p
apart-swap p q apart = record { differ = λ e. apart.differ (sym e); below = apart.above; above = apart.below }

-- neither lies at or above the other
pub apart-at : (p q : Names) → IsApart p q → IsAtOrAbove p q → ⊥
apart-at p q apart at = elim (at_or_above-cases p q at) [
  | inl is ↦ apart.differ is
  | inr above ↦ apart.below above
]

pub apart-by : (p q : Names) → (IsAtOrAbove p q → ⊥) → (IsAtOrAbove q p → ⊥) → IsApart p q
apart-by p q no_down no_up = record {
  differ = λ e. no_down ([], sym e ∙ sym (append-nil p));
  below = λ a. no_down (above-at p q a);
  above = λ a. no_up (above-at q p a);
}

-- places at or below two that are apart are apart
pub apart-below : (p q r s : Names) → IsApart p q → IsAtOrAbove p r → IsAtOrAbove q s → IsApart r s
apart-below p q r s apart (a, e) (b, f) = apart-by r s
    (λ at. let over = at_or_above-over p r s (a, e) at in meet over.0 b (sym over.1 ∙ f))
    (λ at. let over = at_or_above-over q s r (b, f) at in meet a over.0 (sym e ∙ over.1))
  where
    meet : (x y : Names) → p ++ x ≡ q ++ y → ⊥
    meet x y both = elim (comparable p q x y both) [
      | inl at ↦ apart-at p q apart at
      | inr above ↦ apart.above above
    ]

-- FOUR CASES
pub data HowPlaced (p q : Names) : Type 0 where
  is_same : p ≡ q → HowPlaced p q
  is_over : IsAbove p q → HowPlaced p q
  is_under : IsAbove q p → HowPlaced p q
  is_beside : IsApart p q → HowPlaced p q

pub how_placed : (p q : Names) → HowPlaced p q
how_placed p q = elim (cases_place p q) [
  | inl is ↦ is_same is
  | inr differ ↦ elim (cases_Bool (is_above p q)) [
    | inl over ↦ is_over (is_above-sound p q over)
    | inr no_down ↦ elim (cases_Bool (is_above q p)) [
      | inl under ↦ is_under (is_above-sound q p under)
      | inr no_up ↦ is_beside (record { differ = differ; below = not_above p q no_down; above = not_above q p no_up })
    ]
  ]
]

-- the test
pub apart-complete : (p q : Names) → IsApart p q → are_apart p q ≡ true
apart-complete [] [] apart = absurd (apart.differ refl)
apart-complete [] (y ∷ ys) apart = absurd (apart.below (y, ys, refl))
apart-complete (x ∷ xs) [] apart = absurd (apart.above (x, xs, refl))
apart-complete (x ∷ xs) (y ∷ ys) apart = elim (cases_Bool (bytes_eq x y)) [
  | inl is ↦ or_right (not (bytes_eq x y)) (are_apart xs ys) (apart-complete xs ys (rest ((bytes_eq-Decides x y).0 is)))
  | inr differ ↦ λ i. not (differ i) || are_apart xs ys
]
  where
    rest : x ≡ y → IsApart xs ys
    rest e = record {
      differ = λ f. apart.differ (λ i. e i ∷ f i);
      below = λ a. apart.below (a.0, a.1, λ i. (sym e) i ∷ a.2 i);
      above = λ a. apart.above (a.0, a.1, λ i. e i ∷ a.2 i);
    }

pub not_apart : (p q : Names) → are_apart p q ≡ false → IsApart p q → ⊥
not_apart p q h apart = false≢true (sym h ∙ apart-complete p q apart)

-- places with other names below one root
pub apart-names : (root : Names) (n m : List ℕ) (ns ms : Names) → n ≢ m → IsApart (root ++ n ∷ ns) (root ++ m ∷ ms)
apart-names root n m ns ms differ = apart-under root (n ∷ ns) (m ∷ ms) (record {
  differ = λ e. differ (cc e);
  below = λ a. differ (sym (cc a.2));
  above = λ a. differ (cc a.2);
})
