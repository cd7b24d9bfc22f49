-- Lists of files, and the ground that each one makes.
use Rattle.std.specs.Prelude.{◌≡◌, ℕ, Bool, true, false, not, ◌||◌, if◌then◌else◌, List, [], ◌∷◌}
use Rattle.std.specs.Prelude.{◌++◌, map, Option, None, Some, Result, Ok, Err, Vec}
use Rattle.std.specs.declared.alloc.Global.{Global}
use Rattle.std.specs.List.{list_any}
use Rattle.std.specs.List.Sorted.{IsStrictlySortedBy}
use Rattle.std.specs.FinMap.{insert, from_entries}
use Rattle.places.specs.All.{Names, are_apart, place_cmp, Ground, stands, is_shut, IsGround}
use Rattle.file_store.specs.declared.memory.errors.MemErr.{MemErr}
use Rattle.file_store.specs.declared.memory.errors.MemErr.TheVariants.{Clash, NoMemory}

-- Their places.
abbrev pub places_in : List (Names × Vec ℕ Global) → List Names
places_in files = map (λ file. file.0) files

-- The places with their bytes, whatever memory those have.
abbrev pub plain : List (Names × Vec ℕ Global) → List (Names × List ℕ)
plain files = map (λ file. (file.0, file.1.items)) files

-- The ground on which they stand.
abbrev pub ground_of : List (Names × Vec ℕ Global) → Ground
ground_of files = from_entries (plain files)

-- Whether the place is one of the others, or lies above or below one of them.
abbrev pub clashes : List Names → Names → Bool
clashes others p = list_any (λ q. not (are_apart p q)) others

-- The first of the places that clashes with one of the earlier ones.
abbrev pub clash_after : List Names → List Names → Option Names
clash_after earlier [] = None
clash_after earlier (p ∷ ps) =
    if clashes earlier p then Some p else clash_after (earlier ++ p ∷ []) ps

-- The first place of a list that clashes with one before it.
abbrev pub clash_of : List Names → Option Names
clash_of ps = clash_after [] ps

-- What stands on a ground, in byte order of the places.
pub record IsListOf (g : Ground) (files : List (Names × Vec ℕ Global)) : Type 0 where
  pub same : ground_of files ≡ g
  pub ascending : IsStrictlySortedBy place_cmp (places_in files)

-- One file is added to those that stand, unless it clashes with one.
abbrev pub AddEnds : Names → List ℕ → Ground → Ground → Result (Unit {0}) MemErr → Type 0
AddEnds p bytes old new (Ok _) =
    (new ≡ insert old p bytes) × ((stands old p || is_shut old p) ≡ false)
AddEnds p bytes old new (Err (Clash at)) = (at ≡ p) × ((stands old p || is_shut old p) ≡ true)
AddEnds p bytes old new (Err NoMemory) = new ≡ old

-- The files of a list come to stand, unless a place clashes with an earlier one.
abbrev pub GatherEnds : List (Names × Vec ℕ Global) → Result Ground MemErr → Type 0
GatherEnds files (Ok g) = (g ≡ ground_of files) × IsGround g × (clash_of (places_in files) ≡ None)
GatherEnds files (Err (Clash at)) = clash_of (places_in files) ≡ Some at
GatherEnds files (Err NoMemory) = Unit {0}
