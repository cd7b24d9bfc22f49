-- How an object's file is read, and what is made of it.
use Rattle.std.specs.Prelude.{◌≡◌, ◌<◌, ℕ, Bool, List, Option, None, Some, Vec, Result, Ok, Err}
use Rattle.std.specs.Prelude.{option_map}
use Rattle.std.specs.declared.alloc.Global.{Global}
use Rattle.places.specs.All.{Names, text_of, file_at}
use Rattle.file_store.specs.All.{Drive}
use Rattle.faults.specs.declared.faults.Fault.{Fault}
use Rattle.faults.specs.declared.faults.Trouble.{Trouble}
use Rattle.faults.specs.declared.faults.Fault.TheVariants.{TooLarge}
use Rattle.faults.specs.declared.faults.Trouble.TheVariants.{Refused, Device, NoMemory}
use Rattle.git_objects.specs.declared.objects.ObjKind.{ObjKind}
use Rattle.repository.specs.All.{object_of, object_file_limit}
use Rattle.acts.specs.All.{Reads}
use Rattle.object_store.specs.Reads.{object_seen, body_fault, size_fault}

-- The file at this place is too long to be read.
abbrev pub IsLongFile : Names → Fault → Type 0
IsLongFile place (TooLarge path size) = (path ≡ text_of place) × (object_file_limit < size)
IsLongFile place fault = ⊥

-- How the reading of an object's file ends.
abbrev pub TextReads : Bool → Names → Drive → Drive → Result (Option (Vec ℕ Global)) Trouble
    → Type 0
TextReads tells place old new result =
    Reads (λ fault. IsLongFile place fault) tells
    (λ g text. (size_fault place (file_at g place) ≡ None)
    × (option_map (λ v. v.items) text ≡ file_at g place))
    (λ g fault. size_fault place (file_at g place) ≡ Some fault) old new result

-- A file's text has the object with this id, and its body isn't too long; or it is refused.
abbrev pub IsTaken : Names → List ℕ → List ℕ → Result (ObjKind × Vec ℕ Global) Trouble → Type 0
IsTaken place id text (Ok found) =
    (body_fault place (object_of id (Some text)) ≡ None)
    × (Some (object_seen found) ≡ object_of id (Some text))
IsTaken place id text (Err (Refused fault)) =
    body_fault place (object_of id (Some text)) ≡ Some fault
IsTaken place id text (Err Device) = ⊥
IsTaken place id text (Err NoMemory) = Unit {0}
