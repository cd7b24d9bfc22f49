-- The files of a list, laid one after the other over a ground.
use Rattle.std.proofs.Common.{◌≡◌, ◌≢◌, inl, inr, ℕ, List, [], ◌∷◌, refl, sym, ◌∙◌, ap}
use Rattle.std.specs.declared.cmp.Ordering.TheVariants.{Less}
use Rattle.std.specs.List.{AllByRecursion}
use Rattle.std.specs.List.Sorted.{IsStrictlySortedBy}
use Rattle.std.specs.Map.{keys_of}
use Rattle.std.specs.FinMap.{empty, insert}
use Rattle.std.proofs.lemmas.Cmp.{tied_itself}
use Rattle.std.proofs.lemmas.Map.Keys.{sorted_head, sorted_tail}
use Rattle.places.specs.All.{Names, place_cmp, Ground}
use Rattle.places.proofs.Ties.{place_cmp_total}
use Rattle.places.proofs.Grounds.{cases_place, same_ground, file_at-insert_same, file_at-insert_other}
use Rattle.file_store.specs.Memory.Lists.{ground_of}
use Rattle.file_store.proofs.Stored.{Entries}

abbrev pub laid : Ground → Entries → Ground
laid g [] = g
laid g (e ∷ es) = laid (insert g e.0 e.1.items) es

-- one place is not below itself
pub differ_by_order : (p q : Names) → place_cmp p q ≡ Less → p ≢ q
differ_by_order p q less is = cc (less, tied_itself place_cmp_total p, ap (place_cmp p) is)

-- files at two places may change their order
turned : (g : Ground) (p q : Names) (a b : List ℕ) → p ≢ q → insert (insert g p a) q b ≡ insert (insert g q b) p a
turned g p q a b apart = same_ground _ _ (λ r. elim (cases_place r q) [
  | inl here ↦
      file_at-insert_same (insert g p a) q b r here
      ∙ sym (file_at-insert_other (insert g q b) p a r (λ e. apart (sym e ∙ here)) ∙ file_at-insert_same g q b r here)
  | inr there ↦ file_at-insert_other (insert g p a) q b r there ∙ elim (cases_place r p) [
    | inl at ↦ file_at-insert_same g p a r at ∙ sym (file_at-insert_same (insert g q b) p a r at)
    | inr off ↦ file_at-insert_other g p a r off ∙ sym (file_at-insert_other (insert g q b) p a r off ∙ file_at-insert_other g q b r there)
  ]
])

laid-insert : (es : Entries) (g : Ground) (p : Names) (a : List ℕ) → AllByRecursion (λ y. place_cmp p y ≡ Less) (keys_of es) → laid (insert g p a) es ≡ insert (laid g es) p a
laid-insert [] g p a below = refl
laid-insert (e ∷ es) g p a below =
    ap (λ (h : Ground). laid h es) (turned g p e.0 a e.1.items (differ_by_order p e.0 below.0))
    ∙ laid-insert es (insert g e.0 e.1.items) p a below.1

-- in byte order of the places
pub laid-ground_of : (es : Entries) → IsStrictlySortedBy place_cmp (keys_of es) → laid empty es ≡ ground_of es
laid-ground_of [] sorted = refl
laid-ground_of (e ∷ es) sorted =
    laid-insert es empty e.0 e.1.items (sorted_head place_cmp e.0 (keys_of es) sorted)
    ∙ ap (λ (g : Ground). insert g e.0 e.1.items) (laid-ground_of es (sorted_tail place_cmp e.0 (keys_of es) sorted))
