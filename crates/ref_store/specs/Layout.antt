-- Where HEAD and branches stand, as a call gives their places.
use Rattle.std.specs.Prelude.{◌≡◌, ◌++◌, ℕ, List, Some, None, Result, Ok, Err, codes}
use Rattle.places.specs.All.{Names}
use Rattle.faults.specs.declared.faults.Trouble.{Trouble}
use Rattle.faults.specs.declared.faults.Trouble.TheVariants.{Refused, Device, NoMemory}
use Rattle.ref_store.specs.Reading.{long_place}

-- The path of a branch in its repository.
abbrev pub branch_path : List ℕ → List ℕ
branch_path name = codes "refs/heads/" ++ name

-- The place, or its refusal where it is longer than places are.
abbrev pub IsPlaced : Names → Result Names Trouble → Type 0
IsPlaced place (Ok given) = (given ≡ place) × (long_place place ≡ None)
IsPlaced place (Err (Refused fault)) = long_place place ≡ Some fault
IsPlaced place (Err Device) = ⊥
IsPlaced place (Err NoMemory) = Unit {0}
