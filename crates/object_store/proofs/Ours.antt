-- Where objects are put: what stands at their places before and after.
use Rattle.std.proofs.Common.{◌≡◌, ◌≢◌, inl, inr, ℕ, ◌+◌, Bool, true, false, cond, ◌||◌, List, [], ◌∷◌, ◌++◌, fold, Option, Some, None, refl, sym, ap, ◌∙◌}
use Rattle.std.specs.Prelude.{is_some}
use Rattle.std.specs.List.{All}
use Rattle.std.proofs.lemmas.Bool.{false≢true}
use Rattle.std.proofs.lemmas.List.Elements.{All-head, All-tail}
use Rattle.places.specs.All.{Names, place_eq, Ground, file_at, stands}
use Rattle.places.proofs.Ties.{same_names}
use Rattle.places.proofs.Grammar.{or_either}
use Rattle.places.proofs.Grounds.{cases_place, same}
use Rattle.file_store.specs.All.{Round, with_file, changed, or_next, IsNoTmp, round_of}
use Rattle.file_store.specs.declared.replacing.Replacement.{Replacement}
use Rattle.faults.specs.declared.faults.Fault.{Fault}
use Rattle.file_store.proofs.Rounds.{file_at-with_file, with_file_same, with_file_other, changed-as}
use Rattle.repository.specs.All.{in_tmp}
use Rattle.object_store.specs.Objects.{place_in, object_text, objects_round, with_objects}
use Rattle.object_store.specs.Puts.{fault_in, first_fault, has_place, one_object_more, missing}
use Rattle.object_store.specs.Puts.{staging}
use Rattle.object_store.specs.declared.objects.NewObject.{NewObject}
use Rattle.object_store.proofs.Found.{own_text}
use Rattle.object_store.proofs.Lists.{round-staging}
use Rattle.repository.proofs.Temporary.{outside_apart}
use Rattle.object_store.proofs.Staged.{staging_at}

or_parts : (a b : Option Fault) → or_next a b ≡ None → (a ≡ None) × (b ≡ None)
or_parts None b e = (refl, e)
or_parts (Some f) b e = absurd (cc e)

-- ---- one round of objects

module _ (repo : Names) where
  objects-appended : (objects : List NewObject) (x : NewObject) (g : Ground) → with_objects repo (objects ++ x ∷ []) g ≡ with_objects repo objects (with_file (place_in repo x) (Some (object_text x)) g)
  objects-appended [] x g = refl
  objects-appended (y ∷ objects) x g = ap (with_file (place_in repo y) (Some (object_text y))) (objects-appended objects x g)

  -- the first one that goes to a place counts there
  decided : (objects : List NewObject) (g h : Ground) (q : Names) → has_place repo objects q ≡ true → file_at (with_objects repo objects g) q ≡ file_at (with_objects repo objects h) q
  decided [] g h q has = absurd (false≢true has)
  decided (x ∷ objects) g h q has =
      file_at-with_file (place_in repo x) (Some (object_text x)) (with_objects repo objects g) q
      ∙ elim (or_either (place_eq (place_in repo x) q) (has_place repo objects q) has) [
        | inl here ↦
            let is : place_eq q (place_in repo x) ≡ true = same q (place_in repo x) (sym ((same_names (place_in repo x) q).0 here)) in
            (λ i. cond (is i) (Some (object_text x)) (file_at (with_objects repo objects g) q)) ∙ sym (λ i. cond (is i) (Some (object_text x)) (file_at (with_objects repo objects h) q))
        | inr there ↦ ap (λ o. cond (place_eq q (place_in repo x)) (Some (object_text x)) o) (decided objects g h q there)
      ]
      ∙ sym (file_at-with_file (place_in repo x) (Some (object_text x)) (with_objects repo objects h) q)

  module _ (g : Ground) where
    -- an object that isn't missing stands with its own text
    pub held_text : (x : NewObject) → fault_in repo x (file_at g (place_in repo x)) ≡ None → stands g (place_in repo x) ≡ true → file_at g (place_in repo x) ≡ Some (object_text x)
    held_text x e there = by (file_at g (place_in repo x)) refl
      where
        by : (o : Option (List ℕ)) → file_at g (place_in repo x) ≡ o → file_at g (place_in repo x) ≡ Some (object_text x)
        by None is = absurd (cc (there, is))
        by (Some bytes) is = is ∙ ap Some (own_text repo x bytes (ap (fault_in repo x) (sym is) ∙ e))

    -- what stands, stays
    pub held_stays : (objects : List NewObject) → first_fault repo objects g ≡ None → (q : Names) → stands g q ≡ true → file_at (with_objects repo objects g) q ≡ file_at g q
    held_stays [] none q there = refl
    held_stays (x ∷ objects) none q there =
        let parts = or_parts (fault_in repo x (file_at g (place_in repo x))) (first_fault repo objects g) none in
        elim (cases_place q (place_in repo x)) [
          | inl is ↦ with_file_same (place_in repo x) (Some (object_text x)) (with_objects repo objects g) q is ∙ sym (held_text x parts.0 (sym (ap (stands g) is) ∙ there)) ∙ sym (ap (file_at g) is)
          | inr other ↦ with_file_other (place_in repo x) (Some (object_text x)) (with_objects repo objects g) q other ∙ held_stays objects parts.1 q there
        ]

    abbrev more_missing : List NewObject → List NewObject → List NewObject
    more_missing some objects = fold (λ some object. one_object_more repo (stands g (place_in repo object)) some object) some objects

    module _ (x : NewObject) (objects some : List NewObject) (none : first_fault repo (x ∷ objects) g ≡ None) (q : Names) where
      abbrev rest : Ground
      rest = with_objects repo objects g

      abbrev all : Ground
      all = with_objects repo (x ∷ objects) g

      elsewhere : q ≢ place_in repo x → file_at rest q ≡ file_at all q
      elsewhere apart = sym (with_file_other (place_in repo x) (Some (object_text x)) rest q apart)

      one_step : (t : Bool) → stands g (place_in repo x) ≡ t → (b : Bool) → has_place repo some (place_in repo x) ≡ b
          → file_at (with_objects repo (one_object_more repo t some x) rest) q ≡ file_at (with_objects repo some all) q
      one_step true there b has = changed-as (objects_round repo some) rest all q (elim (cases_place q (place_in repo x)) [
        | inl is ↦ held_stays objects (or_parts (fault_in repo x (file_at g (place_in repo x))) (first_fault repo objects g) none).1 q (ap (stands g) is ∙ there) ∙ sym (held_stays (x ∷ objects) none q (ap (stands g) is ∙ there))
        | inr other ↦ elsewhere other
      ])
      one_step false gone true has =
          ap (λ b. file_at (with_objects repo (cond b some (some ++ x ∷ [])) rest) q) has
          ∙ elim (cases_place q (place_in repo x)) [
            | inl is ↦ decided some rest all q (ap (has_place repo some) is ∙ has)
            | inr other ↦ changed-as (objects_round repo some) rest all q (elsewhere other)
          ]
      one_step false gone false has =
          ap (λ b. file_at (with_objects repo (cond b some (some ++ x ∷ [])) rest) q) has
          ∙ ap (λ (h : Ground). file_at h q) (objects-appended some x rest)

    -- the others need not be put
    only_missing : (objects some : List NewObject) (q : Names) → first_fault repo objects g ≡ None
        → file_at (with_objects repo (more_missing some objects) g) q ≡ file_at (with_objects repo some (with_objects repo objects g)) q
    only_missing [] some q none = refl
    only_missing (x ∷ objects) some q none =
        only_missing objects (one_object_more repo (stands g (place_in repo x)) some x) q (or_parts (fault_in repo x (file_at g (place_in repo x))) (first_fault repo objects g) none).1
        ∙ one_step x objects some none q (stands g (place_in repo x)) refl (has_place repo some (place_in repo x)) refl

    pub missing_enough : (objects : List NewObject) (q : Names) → first_fault repo objects g ≡ None → file_at (with_objects repo (missing repo objects g) g) q ≡ file_at (with_objects repo objects g) q
    missing_enough objects q none = only_missing objects [] q none

    -- ---- their files

    abbrev files : List NewObject → List Replacement
    files objects = staging repo 0 (missing repo objects g)

    pub outside_firm : (some : List NewObject) (q : Names) → in_tmp repo q ≡ false → IsNoTmp (staging repo 0 some) q
    outside_firm some q outside i r at is =
        let found = staging_at repo 0 some i r at in
        outside_apart repo q (0 + i) outside (is ∙ ap (λ (z : Replacement). z.tmp) found.2)

    pub round_enough : (objects : List NewObject) (q : Names) → first_fault repo objects g ≡ None → file_at (changed (round_of (files objects)) g) q ≡ file_at (with_objects repo objects g) q
    round_enough objects q none = ap (λ (round : Round). file_at (changed round g) q) (round-staging repo 0 (missing repo objects g)) ∙ missing_enough objects q none

-- ---- for the layers above

-- where nothing stands at any object's place, nothing is refused
pub none_held : (repo : Names) (objects : List NewObject) (g : Ground) → All (λ x. file_at g (place_in repo x) ≡ None) objects → first_fault repo objects g ≡ None
none_held repo [] g free = refl
none_held repo (x ∷ objects) g free =
    let gone = All-head (λ y. file_at g (place_in repo y) ≡ None) x objects free in
    ap (λ o. or_next (fault_in repo x o) (first_fault repo objects g)) gone ∙ none_held repo objects g (All-tail (λ y. file_at g (place_in repo y) ≡ None) x objects free)

missing_after : (repo : Names) (g : Ground) (objects some : List NewObject) (x : NewObject) → (more : List NewObject) × (more_missing repo g (x ∷ some) objects ≡ x ∷ more)
missing_after repo g [] some x = (some, refl)
missing_after repo g (y ∷ objects) some x = by (stands g (place_in repo y) || has_place repo (x ∷ some) (place_in repo y)) (missing_after repo g objects some x) (missing_after repo g objects (some ++ y ∷ []) x)
  where
    by : (b : Bool) → (more : List NewObject) × (more_missing repo g (x ∷ some) objects ≡ x ∷ more) → (more : List NewObject) × (more_missing repo g (x ∷ (some ++ y ∷ [])) objects ≡ x ∷ more)
        → (more : List NewObject) × (more_missing repo g (cond b (x ∷ some) (x ∷ (some ++ y ∷ []))) objects ≡ x ∷ more)
    by true there gone = there
    by false there gone = gone

-- and the first object is the first that is missing
pub first_missing : (repo : Names) (x : NewObject) (objects : List NewObject) (g : Ground) → file_at g (place_in repo x) ≡ None → (more : List NewObject) × (missing repo (x ∷ objects) g ≡ x ∷ more)
first_missing repo x objects g gone =
    let found = missing_after repo g objects [] x in
    (found.0, ap (λ (o : Option (List ℕ)). more_missing repo g (cond (is_some o || false) [] (x ∷ [])) objects) gone ∙ found.1)
