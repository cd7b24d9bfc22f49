-- Files that are removed in one round.
use Rattle.std.specs.Prelude.{◌≡◌, Bool, IsTrue, List, map, None, Result, Ok, Err}
use Rattle.places.specs.All.{Names}
use Rattle.file_store.specs.Disk.{Drive, at_rest}
use Rattle.file_store.specs.Course.{Round, changed}
use Rattle.file_store.specs.Ends.{present}
use Rattle.file_store.specs.declared.errors.FileErr.{FileErr}
use Rattle.file_store.specs.declared.errors.FileErr.TheVariants.{Failed, Blocked, NoMemory}

-- No place is loose.
abbrev pub Everywhere : Names → Type 0
Everywhere q = Unit {0}

-- Each place with nothing.
abbrev pub removal_of : List Names → Round
removal_of list = map (λ p. (p, None)) list

-- All of them are gone, safe from a crash; or the device failed; or memory was wanting.
abbrev pub RemoveAllEnds : Bool → List Names → Drive → Drive → Result (Unit {0}) FileErr → Type 0
RemoveAllEnds tells list old new (Ok _) =
    IsTrue tells → new.history.latest ≡ at_rest (changed (removal_of list) (present old))
RemoveAllEnds tells list old new (Err Failed) = Unit {0}
RemoveAllEnds tells list old new (Err (Blocked at)) = ⊥
RemoveAllEnds tells list old new (Err NoMemory) = Unit {0}
