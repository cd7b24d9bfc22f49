-- Places of contents and logs as calls give them, and the refusals by their lengths.
use Rattle.std.specs.Prelude.{◌≡◌, ◌<◌, ◌++◌, ◌∷◌, ℕ, if◌then◌else◌, nat_lt, List, length}
use Rattle.std.specs.Prelude.{Option, Some, None, Result, Ok, Err, codes}
use Rattle.places.specs.All.{Names, text_of, longest}
use Rattle.faults.specs.declared.faults.Fault.{Fault}
use Rattle.faults.specs.declared.faults.Fault.TheVariants.{TooLarge}
use Rattle.faults.specs.declared.faults.Trouble.{Trouble}
use Rattle.faults.specs.declared.faults.Trouble.TheVariants.{Refused, Device, NoMemory}
use Rattle.annex_keys.specs.All.{PlainKey, hash_dir, key_text}
use Rattle.repository.specs.All.{large}

-- The path of a content in its repository.
abbrev pub content_path : PlainKey → List ℕ
content_path key = codes "annex/objects/" ++ (hash_dir key ++ 47 ∷ key_text key)

-- The path of a log in its repository.
abbrev pub log_path : PlainKey → List ℕ
log_path key = codes "annex/logs/" ++ (hash_dir key ++ 47 ∷ (key_text key ++ codes ".log"))

-- The refusal of a file whose place is longer than places are.
abbrev pub long_place : Names → Option Fault
long_place place = if nat_lt longest (length (text_of place)) then large place else None

-- A place whose text is longer than places are, with its text and its length.
abbrev pub IsLong : Names → List ℕ → ℕ → Type 0
IsLong place path size =
    (path ≡ text_of place) × (size ≡ length (text_of place)) × (longest < length (text_of place))

-- The place, or its refusal where it is longer than places are.
abbrev pub IsPlaced : Names → Result Names Trouble → Type 0
IsPlaced place (Ok given) = (given ≡ place) × (long_place place ≡ None)
IsPlaced place (Err (Refused fault)) = long_place place ≡ Some fault
IsPlaced place (Err Device) = ⊥
IsPlaced place (Err NoMemory) = Unit {0}

-- The refusal of a file of more bytes than this, by its place and how many it has.
abbrev pub over_fault : Names → ℕ → ℕ → Option Fault
over_fault place limit size =
    if nat_lt limit size then Some (TooLarge (text_of place) size) else None

-- A file of more bytes than this.
abbrev pub IsOver : Names → ℕ → List ℕ → ℕ → Type 0
IsOver place limit path size = (path ≡ text_of place) × (limit < size)
