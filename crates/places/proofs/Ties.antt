-- `==` agrees with the order of names, and the laws of both orders.
use Rattle.std.specs.Prelude.{◌≡◌, Bool, true, false, refl}
use Rattle.std.proofs.Common.{sym, ap, ◌∙◌}
use Rattle.std.specs.declared.cmp.Ordering.{Ordering}
use Rattle.std.specs.declared.cmp.Ordering.TheVariants.{Less, Equal, Greater}
use Rattle.std.specs.Ordering.{is_eq}
use Rattle.std.proofs.lemmas.Cmp.{tied_itself}
use Rattle.places.specs.Names.{Names}
use Rattle.places.specs.Order.{names_cmp, place_eq}
pub use Rattle.places.specs.Ordered.{names_cmp_total, names_cmp-IsAntisymmetric, place_cmp_total}
pub use Rattle.places.specs.Ordered.{place_cmp-IsAntisymmetric, same_names, place_eq-cmp}

-- `==` agrees with the order of names.
pub place_eq-names_cmp : (p q : Names) → place_eq p q ≡ is_eq (names_cmp p q)
place_eq-names_cmp p q = by (place_eq p q) refl
  where
    differ : (o : Ordering) → names_cmp p q ≡ o → place_eq p q ≡ false → is_eq o ≡ false
    differ Less e h = refl
    differ Equal e h = absurd (cc ((same_names p q).1 (names_cmp-IsAntisymmetric p q e), h))
    differ Greater e h = refl

    by : (b : Bool) → place_eq p q ≡ b → b ≡ is_eq (names_cmp p q)
    by true e = sym (ap is_eq
        (ap (λ (z : Names). names_cmp p z) (sym ((same_names p q).0 e))
        ∙ tied_itself names_cmp_total p))
    by false e = sym (differ (names_cmp p q) refl e)
