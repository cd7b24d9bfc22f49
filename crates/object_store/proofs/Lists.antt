-- Faults, missing objects and their files, list by list.
use Rattle.std.proofs.Common.{◌≡◌, ℕ, ◌+◌, ◌||◌, List, [], ◌∷◌, ◌++◌, length, Option, Some, None, refl, sym, ap, ◌∙◌, add-zero, arith}
use Rattle.std.specs.List.{list_any}
use Rattle.places.specs.All.{Names, place_eq, Ground, file_at}
use Rattle.file_store.specs.All.{Round, or_next, round_of}
use Rattle.file_store.specs.declared.replacing.Replacement.{Replacement}
use Rattle.faults.specs.declared.faults.Fault.{Fault}
use Rattle.object_store.specs.Objects.{place_in, object_text, objects_round}
use Rattle.object_store.specs.Looks.{file_of}
use Rattle.object_store.specs.Puts.{fault_in, first_fault, has_place, staging}
use Rattle.object_store.specs.declared.objects.NewObject.{NewObject}

or_next-assoc : (a b c : Option Fault) → or_next (or_next a b) c ≡ or_next a (or_next b c)
or_next-assoc None b c = refl
or_next-assoc (Some x) b c = refl

pub first_fault-append : (repo : Names) (a b : List NewObject) (g : Ground) → first_fault repo (a ++ b) g ≡ or_next (first_fault repo a g) (first_fault repo b g)
first_fault-append repo [] b g = refl
first_fault-append repo (x ∷ a) b g =
    ap (or_next (fault_in repo x (file_at g (place_in repo x)))) (first_fault-append repo a b g)
    ∙ sym (or_next-assoc (fault_in repo x (file_at g (place_in repo x))) (first_fault repo a g) (first_fault repo b g))

-- the files of objects, as a round
pub round-staging : (repo : Names) (i : ℕ) (objects : List NewObject) → round_of (staging repo i objects) ≡ objects_round repo objects
round-staging repo i [] = refl
round-staging repo i (x ∷ objects) = ap (λ (round : Round). (place_in repo x, Some (object_text x)) ∷ round) (round-staging repo (i + 1) objects)

-- the places of files are those of their objects
pub any-staging : (repo : Names) (i : ℕ) (objects : List NewObject) (p : Names) → list_any (λ r. place_eq r.place p) (staging repo i objects) ≡ has_place repo objects p
any-staging repo i [] p = refl
any-staging repo i (x ∷ objects) p = ap (λ b. place_eq (place_in repo x) p || b) (any-staging repo (i + 1) objects p)

pub staging-append : (repo : Names) (i : ℕ) (a b : List NewObject) → staging repo i (a ++ b) ≡ staging repo i a ++ staging repo (i + length a) b
staging-append repo i [] b = ap (λ n. staging repo n b) (sym (add-zero i))
staging-append repo i (x ∷ a) b =
    let further : i + 1 + length a ≡ i + length (x ∷ a) = omega arith in
    ap (λ (z : List Replacement). file_of repo i x ∷ z) (staging-append repo (i + 1) a b ∙ ap (λ n. staging repo (i + 1) a ++ staging repo n b) further)

pub length-staging : (repo : Names) (i : ℕ) (a : List NewObject) → length (staging repo i a) ≡ length a
length-staging repo i [] = refl
length-staging repo i (x ∷ a) = let e = length-staging repo (i + 1) a in omega arith
