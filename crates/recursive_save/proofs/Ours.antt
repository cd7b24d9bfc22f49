-- The files of a new dataset, which go from unfinished writes to its parts, and that those between can be replaced in one go.
use Rattle.std.proofs.Common.{◌≡◌, ◌≢◌, ◌<◌, ℕ, zero, suc, ◌+◌, true, false, List, [], ◌∷◌, ◌++◌, Some, refl, sym, ap, ◌∙◌, subst, arith}
use Rattle.std.proofs.lemmas.Bool.{false≢true}
use Rattle.std.specs.Prelude.{slice_get}
use Rattle.places.specs.All.{Names, are_apart}
use Rattle.file_store.specs.All.{only, AreApart}
use Rattle.file_store.specs.declared.replacing.Replacement.{Replacement}
use Rattle.git_objects.specs.All.{oid}
use Rattle.repository.specs.All.{repo_of, config_place, settings_place, index_place, main_place}
use Rattle.repository.specs.All.{head_place, tmp_place, in_tmp}
use Rattle.repository.proofs.Temporary.{tmp_injective}
use Rattle.repository.proofs.Parts.{Part, Config, Settings, Index, Main, names_at, IsPart, tmp_part, object_part, config_part, settings_part, index_part, main_part, head_part, other_part, settings_is, index_is, main_is}
use Rattle.object_store.specs.All.{staging}
use Rattle.object_store.specs.declared.objects.NewObject.{NewObject}
use Rattle.recursive_save.specs.Creating.{by_tmp, middle_files}

-- a file that goes from an unfinished write to a part
pub record IsOurs (root : Names) (r : Replacement) : Type 0 where
  pub tmp : IsPart root r.tmp true
  pub place : IsPart root r.place false

abbrev pub AreOurs : Names → List Replacement → Type 0
AreOurs root [] = Unit {0}
AreOurs root (r ∷ list) = IsOurs root r × AreOurs root list

pub listed_ours : (root : Names) (list : List Replacement) (i : ℕ) (r : Replacement) → AreOurs root list → slice_get list i ≡ Some r → IsOurs root r
listed_ours root [] i r ours at = absurd (cc at)
listed_ours root (x ∷ list) zero r ours at =
    let same : x ≡ r = cc at in
    subst (IsOurs root) same ours.0
listed_ours root (x ∷ list) (suc i) r ours at = listed_ours root list i r ours.1 at

pub staging_ours : (root : Names) (i : ℕ) (objects : List NewObject) → AreOurs root (staging (repo_of root) i objects)
staging_ours root i [] = tt
staging_ours root i (x ∷ objects) = (record { tmp = tmp_part root i; place = object_part root (oid x.kind x.body) }, staging_ours root (i + 1) objects)

pub middle_ours : (root : Names) (config index settings main : List ℕ) → AreOurs root (middle_files root config index settings main)
middle_ours root config index settings main = (
  record { tmp = tmp_part root 0; place = config_part root },
  (record { tmp = tmp_part root 1; place = index_part root }, (record { tmp = tmp_part root 2; place = settings_part root }, (record { tmp = tmp_part root 3; place = main_part root }, tt))),
)

pub head_ours : (root : Names) (bytes : List ℕ) → AreOurs root (only (tmp_place (repo_of root) 0) (head_place root) bytes)
head_ours root bytes = (record { tmp = tmp_part root 0; place = head_part root }, tt)

-- THE FILES BETWEEN can be replaced in one go
-- where the file with each number goes
abbrev part_no : ℕ → Part
part_no zero = Config
part_no (suc zero) = Index
part_no (suc (suc zero)) = Settings
part_no (suc (suc (suc i))) = Main

abbrev place_no : Names → ℕ → Names
place_no root zero = config_place root
place_no root (suc zero) = index_place root
place_no root (suc (suc zero)) = settings_place root
place_no root (suc (suc (suc i))) = main_place root

place_is : (root : Names) (i : ℕ) → place_no root i ≡ root ++ names_at (part_no i)
place_is root zero = refl
place_is root (suc zero) = index_is root
place_is root (suc (suc zero)) = settings_is root
place_is root (suc (suc (suc i))) = main_is root

parts_differ : (i j : ℕ) → i < 4 → j < 4 → i ≢ j → are_apart (names_at (part_no i)) (names_at (part_no j)) ≡ true
parts_differ zero zero few_i few_j differ = absurd (differ refl)
parts_differ zero (suc zero) few_i few_j differ = refl
parts_differ zero (suc (suc zero)) few_i few_j differ = refl
parts_differ zero (suc (suc (suc j))) few_i few_j differ = refl
parts_differ (suc zero) zero few_i few_j differ = refl
parts_differ (suc zero) (suc zero) few_i few_j differ = absurd (differ refl)
parts_differ (suc zero) (suc (suc zero)) few_i few_j differ = refl
parts_differ (suc zero) (suc (suc (suc j))) few_i few_j differ = refl
parts_differ (suc (suc zero)) zero few_i few_j differ = refl
parts_differ (suc (suc zero)) (suc zero) few_i few_j differ = refl
parts_differ (suc (suc zero)) (suc (suc zero)) few_i few_j differ = absurd (differ refl)
parts_differ (suc (suc zero)) (suc (suc (suc j))) few_i few_j differ = refl
parts_differ (suc (suc (suc i))) zero few_i few_j differ = refl
parts_differ (suc (suc (suc i))) (suc zero) few_i few_j differ = refl
parts_differ (suc (suc (suc i))) (suc (suc zero)) few_i few_j differ = refl
parts_differ (suc (suc (suc i))) (suc (suc (suc j))) few_i few_j differ = absurd (differ (omega arith))

own_places : (root : Names) (i j : ℕ) → i < 4 → j < 4 → i ≢ j → place_no root i ≢ place_no root j
own_places root i j few_i few_j differ = other_part root (part_no i) (part_no j) _ _ (place_is root i) (place_is root j) (parts_differ i j few_i few_j differ)

module _ (root : Names) (config index settings main : List ℕ) where
  abbrev middle : List Replacement
  middle = middle_files root config index settings main

  middle_tmp : (i : ℕ) (r : Replacement) → slice_get middle i ≡ Some r → (i < 4) × (r.tmp ≡ tmp_place (repo_of root) i) × (r.place ≡ place_no root i)
  middle_tmp zero r at =
      let same : r ≡ by_tmp root 0 (config_place root) config = cc at in
      (omega arith, ap (λ (z : Replacement). z.tmp) same, ap (λ (z : Replacement). z.place) same)
  middle_tmp (suc zero) r at =
      let same : r ≡ by_tmp root 1 (index_place root) index = cc at in
      (omega arith, ap (λ (z : Replacement). z.tmp) same, ap (λ (z : Replacement). z.place) same)
  middle_tmp (suc (suc zero)) r at =
      let same : r ≡ by_tmp root 2 (settings_place root) settings = cc at in
      (omega arith, ap (λ (z : Replacement). z.tmp) same, ap (λ (z : Replacement). z.place) same)
  middle_tmp (suc (suc (suc zero))) r at =
      let same : r ≡ by_tmp root 3 (main_place root) main = cc at in
      (omega arith, ap (λ (z : Replacement). z.tmp) same, ap (λ (z : Replacement). z.place) same)
  middle_tmp (suc (suc (suc (suc i)))) r at = absurd (cc at)

  pub middle_apart : AreApart middle
  middle_apart = record {
    tmps = λ i j r s at_i at_j differ same.
        let a = middle_tmp i r at_i in
        let b = middle_tmp j s at_j in
        differ (tmp_injective (repo_of root) i j (omega (arith, a.0)) (omega (arith, b.0)) (sym a.1 ∙ same ∙ b.1));
    both = λ i j r s at_i at_j same.
        let a = listed_ours root middle i r (middle_ours root config index settings main) at_i in
        let b = listed_ours root middle j s (middle_ours root config index settings main) at_j in
        false≢true (sym b.place.side ∙ ap (in_tmp (repo_of root)) (sym same) ∙ a.tmp.side);
    places = λ i j r s at_i at_j differ same.
        let a = middle_tmp i r at_i in
        let b = middle_tmp j s at_j in
        own_places root i j a.0 b.0 differ (sym a.2 ∙ same ∙ b.2);
  }
