-- The order of places is total, only equal places tie in it, and `==` agrees with it: the laws that
-- ordered values owe. Such a law may not lean on `proofs`, so the proofs stand here.
use Rattle.std.specs.Prelude.{◌≡◌, Bool, true, false, refl}
use Rattle.std.proofs.Common.{sym, ap, ◌∙◌}
use Rattle.std.specs.declared.cmp.Ordering.{Ordering}
use Rattle.std.specs.declared.cmp.Ordering.TheVariants.{Less, Equal, Greater}
use Rattle.std.specs.Bool.{Decides}
use Rattle.std.specs.Ordering.{nat_cmp, ordering_then, is_eq}
use Rattle.std.specs.Cmp.{IsTotalOrder}
use Rattle.std.specs.Cmp.Lexicographic.{slice_cmp}
use Rattle.std.specs.FinMap.{IsAntisymmetric, nat_cmp-IsAntisymmetric, slice_cmp-IsAntisymmetric}
use Rattle.std.proofs.lemmas.Cmp.{lists_total, nat_list_cmp_total, on_total, then_total}
use Rattle.std.proofs.lemmas.Cmp.{tied_itself}
use Rattle.std.proofs.lemmas.Slice.Eq.{bytes_eq-Decides, slice_eq-Decides}
use Rattle.places.specs.Names.{Names, text_of}
use Rattle.places.specs.Order.{names_cmp, place_cmp, place_eq}

-- The order of names is total.
pub names_cmp_total : IsTotalOrder names_cmp
names_cmp_total = lists_total nat_list_cmp_total

-- In the order of names only equal lists tie.
pub names_cmp-IsAntisymmetric : IsAntisymmetric names_cmp
names_cmp-IsAntisymmetric =
    slice_cmp-IsAntisymmetric (slice_cmp-IsAntisymmetric nat_cmp-IsAntisymmetric)

-- Byte order of places is total.
pub place_cmp_total : IsTotalOrder place_cmp
place_cmp_total = then_total (on_total text_of nat_list_cmp_total) names_cmp_total

then_equal : (a b : Ordering) → ordering_then a b ≡ Equal → (a ≡ Equal → b ≡ Equal)
then_equal Less b h = λ e. absurd (cc e)
then_equal Equal b h = λ _. h
then_equal Greater b h = λ e. absurd (cc e)

then_first : (a b : Ordering) → ordering_then a b ≡ Equal → a ≡ Equal
then_first Less b h = absurd (cc h)
then_first Equal b h = refl
then_first Greater b h = absurd (cc h)

-- Only equal lists of names tie.
pub place_cmp-IsAntisymmetric : IsAntisymmetric place_cmp
place_cmp-IsAntisymmetric p q e =
    names_cmp-IsAntisymmetric p q
    (then_equal texts (names_cmp p q) e (then_first texts (names_cmp p q) e))
  where
    texts : Ordering
    texts = slice_cmp nat_cmp (text_of p) (text_of q)

-- The test of equality decides it.
pub same_names : (p q : Names) → Decides (place_eq p q) (p ≡ q)
same_names p q = slice_eq-Decides bytes_eq-Decides p q (place_eq p q) refl

-- `==` agrees with the order.
pub place_eq-cmp : (p q : Names) → place_eq p q ≡ is_eq (place_cmp p q)
place_eq-cmp p q = by (place_eq p q) refl
  where
    differ : (o : Ordering) → place_cmp p q ≡ o → place_eq p q ≡ false → is_eq o ≡ false
    differ Less e h = refl
    differ Equal e h = absurd (cc ((same_names p q).1 (place_cmp-IsAntisymmetric p q e), h))
    differ Greater e h = refl

    by : (b : Bool) → place_eq p q ≡ b → b ≡ is_eq (place_cmp p q)
    by true e = sym (ap is_eq
        (ap (λ (z : Names). place_cmp p z) (sym ((same_names p q).0 e))
        ∙ tied_itself place_cmp_total p))
    by false e = sym (differ (place_cmp p q) refl e)
