-- How looking at objects' places ends.
use Rattle.std.specs.Prelude.{◌≡◌, ◌⊎◌, ℕ, ◌||◌, Bool, false, if◌then◌else◌, List, [], ◌∷◌, ◌++◌}
use Rattle.std.specs.Prelude.{length, Some, None, Vec, Result}
use Rattle.std.specs.declared.alloc.Global.{Global}
use Rattle.std.specs.List.{list_any}
use Rattle.std.specs.Ordering.{nat_cmp}
use Rattle.std.specs.Cmp.Lexicographic.{slice_cmp}
use Rattle.std.specs.BTreeSet.{BTreeSet, contains}
use Rattle.places.specs.All.{place_eq, Names, Ground, file_at, stands}
use Rattle.git_objects.specs.All.{oid}
use Rattle.file_store.specs.All.{Drive}
use Rattle.file_store.specs.declared.replacing.Replacement.{Replacement}
use Rattle.acts.specs.All.{Reads}
use Rattle.faults.specs.declared.faults.Fault.{Fault}
use Rattle.faults.specs.declared.faults.Trouble.{Trouble}
use Rattle.faults.specs.declared.faults.Fault.TheVariants.{Damaged, Collision}
use Rattle.repository.specs.All.{tmp_place}
use Rattle.object_store.specs.Objects.{place_in, object_text}
use Rattle.object_store.specs.Puts.{fault_in, first_fault, has_place, missing, staging}
use Rattle.object_store.specs.declared.objects.NewObject.{NewObject}

-- A fault of bytes at the place of an object that is to be put.
abbrev pub IsFound : Names → NewObject → Fault → Type 0
IsFound repo object (Damaged place) = place ≡ place_in repo object
IsFound repo object (Collision id) = id ≡ oid object.kind object.body
IsFound repo object fault = ⊥

-- A fault of bytes at the place of one of some objects.
abbrev pub IsFoundAmong : Names → List NewObject → Fault → Type 0
IsFoundAmong repo [] fault = ⊥
IsFoundAmong repo (object ∷ objects) fault =
    IsFound repo object fault ⊎ IsFoundAmong repo objects fault

-- The file of an object, by way of the next temporary place.
abbrev pub file_of : Names → ℕ → NewObject → Replacement
file_of repo i object =
    record { tmp = tmp_place repo i; place = place_in repo object; bytes = object_text object }

-- The list with the object's file at its end, unless something stands at its place or another file
-- goes there.
abbrev pub looked : Names → Bool → List Replacement → NewObject → List Replacement
looked repo there before object =
    if there || list_any (λ r. place_eq r.place (place_in repo object)) before then before
    else before ++ file_of repo (length before) object ∷ []

-- An object's id is among the ids exactly where one of the files goes to the object's place.
abbrev pub HaveIds : Names → List Replacement → BTreeSet (List ℕ) → Type 0
HaveIds repo list ids = (object : NewObject) →
    contains (slice_cmp nat_cmp) ids (oid object.kind object.body)
    ≡ list_any (λ r. place_eq r.place (place_in repo object)) list

-- No fault is at the object's place, and it has a file in the list where nothing stands there.
abbrev pub IsLooked : Names → NewObject → List Replacement → List Replacement → Ground → Type 0
IsLooked repo object before after g =
    (fault_in repo object (file_at g (place_in repo object)) ≡ None)
    × (after ≡ looked repo (stands g (place_in repo object)) before object)

-- How a look at an object's place ends.
abbrev pub LookReads : Bool → Names → NewObject → List Replacement → List Replacement → Drive
    → Drive → Result (Unit {0}) Trouble → Type 0
LookReads tells repo object before after old new result =
    Reads (λ fault. IsFound repo object fault) tells (λ g _. IsLooked repo object before after g)
    (λ g fault. fault_in repo object (file_at g (place_in repo object)) ≡ Some fault) old new result

-- The list has the object's file at its end, or is as it was.
abbrev pub MayAdd : Names → NewObject → List Replacement → List Replacement → Type 0
MayAdd repo object before after = (there : Bool) × (after ≡ looked repo there before object)

-- No two of the objects have one place.
abbrev pub HaveOwnPlaces : Names → List NewObject → Type 0
HaveOwnPlaces repo [] = Unit {0}
HaveOwnPlaces repo (object ∷ objects) =
    (has_place repo objects (place_in repo object) ≡ false) × HaveOwnPlaces repo objects

-- These are the files of some objects with places of their own.
abbrev pub AreFiles : Names → List Replacement → Type 0
AreFiles repo list =
    (some : List NewObject) × (list ≡ staging repo 0 some) × HaveOwnPlaces repo some

-- No fault is at the objects' places, and these are the files of those that are missing.
abbrev pub AreMissing : Names → List NewObject → Ground → Vec Replacement Global → Type 0
AreMissing repo objects g list =
    (first_fault repo objects g ≡ None) × (list.items ≡ staging repo 0 (missing repo objects g))

-- How the looks at objects' places end.
abbrev pub MissingReads : Bool → Names → List NewObject → Drive → Drive
    → Result (Vec Replacement Global) Trouble → Type 0
MissingReads tells repo objects old new result =
    Reads (λ fault. IsFoundAmong repo objects fault) tells
    (λ g list. AreMissing repo objects g list)
    (λ g fault. first_fault repo objects g ≡ Some fault) old new result
