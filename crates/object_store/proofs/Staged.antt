-- The files of objects: each goes from its own temporary place to its own place.
use Rattle.std.proofs.Common.{◌≡◌, ◌≢◌, ◌≤◌, ◌+◌, ◌^◌, ℕ, zero, suc, false, List, [], ◌∷◌, length, Some, refl, sym, ap, ◌∙◌, add-zero, arith}
use Rattle.std.specs.Prelude.{slice_get}
use Rattle.std.specs.List.{All}
use Rattle.std.proofs.lemmas.Bool.{false≢true}
use Rattle.std.proofs.lemmas.List.Elements.{All-nil, All-cons}
use Rattle.std.proofs.lemmas.Option.{slice_get_within}
use Rattle.places.specs.All.{Names, place_eq}
use Rattle.places.proofs.Grounds.{same as same_place}
use Rattle.places.proofs.Texts.{or_neither}
use Rattle.file_store.specs.All.{AreApart}
use Rattle.file_store.specs.declared.replacing.Replacement.{Replacement}
use Rattle.git_objects.specs.All.{oid}
use Rattle.repository.specs.All.{object_place, tmp_place}
use Rattle.repository.proofs.Temporary.{tmp_inside, inside_apart, tmp_injective}
use Rattle.object_store.specs.Objects.{place_in}
use Rattle.object_store.specs.Looks.{file_of, HaveOwnPlaces}
use Rattle.object_store.specs.Puts.{has_place, staging}
use Rattle.object_store.specs.declared.objects.NewObject.{NewObject}

-- which object a file is of
pub staging_at : (repo : Names) (k : ℕ) (objects : List NewObject) (i : ℕ) (r : Replacement) → slice_get (staging repo k objects) i ≡ Some r
    → (object : NewObject) × (slice_get objects i ≡ Some object) × (r ≡ file_of repo (k + i) object)
staging_at repo k [] i r e = absurd (cc e)
staging_at repo k (x ∷ objects) zero r e =
    let here : file_of repo k x ≡ r = cc e in
    (x, refl, sym here ∙ ap (λ n. file_of repo n x) (sym (add-zero k)))
staging_at repo k (x ∷ objects) (suc i) r e =
    let found = staging_at repo (k + 1) objects i r e in
    let further : k + 1 + i ≡ k + suc i = omega arith in
    (found.0, found.1, found.2 ∙ ap (λ n. file_of repo n found.0) further)

-- the files of objects can be put in one go
no_place : (repo : Names) (objects : List NewObject) (p : Names) → has_place repo objects p ≡ false → (j : ℕ) (y : NewObject) → slice_get objects j ≡ Some y → place_in repo y ≢ p
no_place repo [] p none j y at e = absurd (cc at)
no_place repo (x ∷ objects) p none zero y at e =
    let is : x ≡ y = cc at in
    false≢true (sym (or_neither (place_eq (place_in repo x) p) (has_place repo objects p) none).0 ∙ same_place (place_in repo x) p (ap (place_in repo) is ∙ e))
no_place repo (x ∷ objects) p none (suc j) y at e = no_place repo objects p (or_neither (place_eq (place_in repo x) p) (has_place repo objects p) none).1 j y at e

own_places : (repo : Names) (objects : List NewObject) → HaveOwnPlaces repo objects → (i j : ℕ) (x y : NewObject) → slice_get objects i ≡ Some x → slice_get objects j ≡ Some y → i ≢ j → place_in repo x ≢ place_in repo y
own_places repo [] own i j x y at_i at_j differ e = absurd (cc at_i)
own_places repo (z ∷ objects) own zero zero x y at_i at_j differ e = absurd (differ refl)
own_places repo (z ∷ objects) own zero (suc j) x y at_i at_j differ e =
    let is : z ≡ x = cc at_i in
    no_place repo objects (place_in repo z) own.0 j y at_j (sym e ∙ ap (place_in repo) (sym is))
own_places repo (z ∷ objects) own (suc i) zero x y at_i at_j differ e =
    let is : z ≡ y = cc at_j in
    no_place repo objects (place_in repo z) own.0 i x at_i (e ∙ ap (place_in repo) (sym is))
own_places repo (z ∷ objects) own (suc i) (suc j) x y at_i at_j differ e = own_places repo objects own.1 i j x y at_i at_j (λ same. differ (omega (arith, same))) e

pub staging_apart : (repo : Names) (objects : List NewObject) → HaveOwnPlaces repo objects → length objects ≤ 2 ^ 64 → AreApart (staging repo 0 objects)
staging_apart repo objects own few = record {
  tmps = λ i j r s at_i at_j differ same.
      let a = staging_at repo 0 objects i r at_i in
      let b = staging_at repo 0 objects j s at_j in
      let within_i = slice_get_within objects i a.0 a.1 in
      let within_j = slice_get_within objects j b.0 b.1 in
      let tmp_i : r.tmp ≡ tmp_place repo (0 + i) = ap (λ (z : Replacement). z.tmp) a.2 in
      let tmp_j : s.tmp ≡ tmp_place repo (0 + j) = ap (λ (z : Replacement). z.tmp) b.2 in
      let one : 0 + i ≡ 0 + j = tmp_injective repo (0 + i) (0 + j) (omega arith) (omega arith) (sym tmp_i ∙ same ∙ tmp_j) in
      differ (omega (arith, one));
  both = λ i j r s at_i at_j same.
      let a = staging_at repo 0 objects i r at_i in
      let b = staging_at repo 0 objects j s at_j in
      let tmp_i : r.tmp ≡ tmp_place repo (0 + i) = ap (λ (z : Replacement). z.tmp) a.2 in
      let place_j : s.place ≡ place_in repo b.0 = ap (λ (z : Replacement). z.place) b.2 in
      inside_apart repo (tmp_place repo (0 + i)) (oid b.0.kind b.0.body) (tmp_inside repo (0 + i)) (sym tmp_i ∙ same ∙ place_j);
  places = λ i j r s at_i at_j differ same.
      let a = staging_at repo 0 objects i r at_i in
      let b = staging_at repo 0 objects j s at_j in
      own_places repo objects own i j a.0 b.0 a.1 b.1 differ (sym (ap (λ (z : Replacement). z.place) a.2) ∙ same ∙ ap (λ (z : Replacement). z.place) b.2);
}

-- a file of a repository: from a temporary place to an object's
pub record IsStaged (repo : Names) (r : Replacement) : Type 0 where
  pub number : ℕ
  pub id : List ℕ
  pub tmp : r.tmp ≡ tmp_place repo number
  pub place : r.place ≡ object_place repo id

-- the files of objects touch no other places
pub staging_places : (repo : Names) (i : ℕ) (objects : List NewObject) → All (λ r. IsStaged repo r) (staging repo i objects)
staging_places repo i [] = All-nil (λ r. IsStaged repo r)
staging_places repo i (x ∷ objects) =
    All-cons (λ r. IsStaged repo r) (file_of repo i x) (staging repo (i + 1) objects) (record { number = i; id = oid x.kind x.body; tmp = refl; place = refl }) (staging_places repo (i + 1) objects)
