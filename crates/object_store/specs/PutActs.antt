-- A put of objects, as an act.
use Rattle.std.specs.Prelude.{◌≡◌, ◌<◌, ℕ, Bool, IsTrue, nat_lt, List, [], ◌∷◌, length, Option}
use Rattle.std.specs.Prelude.{None, if◌then◌else◌}
use Rattle.places.specs.All.{text_of, Names, Ground}
use Rattle.file_store.specs.All.{or_next}
use Rattle.file_store.specs.declared.replacing.Replacement.{Replacement}
use Rattle.faults.specs.declared.faults.Fault.{Fault}
use Rattle.faults.specs.declared.faults.Fault.TheVariants.{TooLarge, Blocked}
use Rattle.object_store.specs.Looks.{IsFoundAmong}
use Rattle.acts.specs.All.{Step, gives, unless, bind, puts}
use Rattle.object_store.specs.Puts.{first_fault, missing, staging}
use Rattle.repository.specs.All.{large, repo_limit, object_limit}
use Rattle.object_store.specs.declared.objects.NewObject.{NewObject}

-- A repository's place is too long to write in: the fault names it, with its length.
abbrev pub IsTooLong : Names → List ℕ → ℕ → Type 0
IsTooLong repo path size =
    (path ≡ text_of repo) × (size ≡ length (text_of repo)) × (repo_limit < length (text_of repo))

-- The faults that a put may hand on, whatever the files tell: of a listed object, of the
-- repository's place, or of a file that is told to be in the way.
abbrev pub MayPut : Bool → Names → List NewObject → Fault → Type 0
MayPut tells repo objects (TooLarge path size) = IsTooLong repo path size
MayPut tells repo objects (Blocked at) = IsTrue tells
MayPut tells repo objects fault = IsFoundAmong repo objects fault

-- The refusal of a place that is too long to write in, where something is missing.
abbrev pub long_fault : Names → List NewObject → Option Fault
long_fault repo [] = None
long_fault repo (object ∷ objects) =
    if nat_lt repo_limit (length (text_of repo)) then large repo else None

-- Why nothing is written, by the order of the refusals.
abbrev pub early_fault : Names → List NewObject → Ground → Option Fault
early_fault repo [] g = None
early_fault repo (object ∷ objects) g =
    if nat_lt object_limit (length (text_of repo)) then large repo
    else or_next (first_fault repo (object ∷ objects) g)
    (long_fault repo (missing repo (object ∷ objects) g))

-- Some files are put, or none.
abbrev pub puts_some : List Replacement → Step (Unit {0})
puts_some [] = gives tt
puts_some (r ∷ list) = puts (r ∷ list)

-- The files of the objects that are missing are put.
abbrev pub puts_missing : Names → List NewObject → Step (Unit {0})
puts_missing repo objects g = puts_some (staging repo 0 (missing repo objects g)) g

-- A put of objects: nothing where it is refused, else the files of those that are missing.
unfoldable pub puts_objects : Names → List NewObject → Step (Unit {0})
puts_objects repo objects =
    bind (unless (early_fault repo objects)) (λ _. puts_missing repo objects)
