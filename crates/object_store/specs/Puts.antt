-- How a put of objects ends.
use Rattle.std.specs.Prelude.{ℕ, ◌+◌, Bool, ◌||◌, List, [], ◌∷◌, ◌++◌, fold, Option, Some, None}
use Rattle.std.specs.Prelude.{if◌then◌else◌, bytes_eq}
use Rattle.std.specs.List.{list_any}
use Rattle.sha1.specs.Sha1.{sha1}
use Rattle.places.specs.All.{Names, place_eq, Ground, file_at, stands}
use Rattle.file_store.specs.All.{or_next}
use Rattle.file_store.specs.declared.replacing.Replacement.{Replacement}
use Rattle.faults.specs.declared.faults.Fault.{Fault}
use Rattle.faults.specs.declared.faults.Fault.TheVariants.{Damaged, Collision}
use Rattle.git_objects.specs.All.{oid, is_object_text}
use Rattle.repository.specs.All.{tmp_place}
use Rattle.object_store.specs.Objects.{place_in, object_text}
use Rattle.object_store.specs.declared.objects.NewObject.{NewObject}

-- Bytes that stand where an object is to be put: none but its own text may. Another object's text
-- with that id is a collision, anything else is damage.
unfoldable pub found_fault : Names → NewObject → List ℕ → Option Fault
found_fault repo object bytes =
    if bytes_eq bytes (object_text object) then None
    else (if is_object_text bytes
    then (if bytes_eq (sha1 bytes) (oid object.kind object.body)
    then Some (Collision (oid object.kind object.body)) else Some (Damaged (place_in repo object)))
    else Some (Damaged (place_in repo object)))

-- The fault of what a place has: nothing is none.
abbrev pub fault_in : Names → NewObject → Option (List ℕ) → Option Fault
fault_in repo object None = None
fault_in repo object (Some bytes) = found_fault repo object bytes

-- The fault of the first object at whose place other bytes stand.
abbrev pub first_fault : Names → List NewObject → Ground → Option Fault
first_fault repo [] g = None
first_fault repo (object ∷ objects) g =
    or_next (fault_in repo object (file_at g (place_in repo object))) (first_fault repo objects g)

-- One of the objects goes there. Two objects have one place exactly where they have one id.
abbrev pub has_place : Names → List NewObject → Names → Bool
has_place repo objects p = list_any (λ object. place_eq (place_in repo object) p) objects

-- One object more, unless something stands at its place or one of the others goes there.
abbrev pub one_object_more : Names → Bool → List NewObject → NewObject → List NewObject
one_object_more repo there some object =
    if there || has_place repo some (place_in repo object) then some else some ++ object ∷ []

-- The objects at whose places nothing stands, and of two with one id the first alone.
abbrev pub missing : Names → List NewObject → Ground → List NewObject
missing repo objects g =
    fold (λ some object. one_object_more repo (stands g (place_in repo object)) some object) []
    objects

-- Their files, by way of temporary places that are numbered from i on.
abbrev pub staging : Names → ℕ → List NewObject → List Replacement
staging repo i [] = []
staging repo i (object ∷ objects) =
    record { tmp = tmp_place repo i; place = place_in repo object; bytes = object_text object }
    ∷ staging repo (i + 1) objects
