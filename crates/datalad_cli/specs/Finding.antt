-- The root of the dataset in which a command works.
use Rattle.std.specs.Prelude.{◌≡◌, ◌≤◌, ℕ, Bool, false, [], ◌∷◌, length, nat_lt, Option, Some}
use Rattle.std.specs.Prelude.{None, codes, if◌then◌else◌, reverse}
use Rattle.places.specs.All.{Names, Ground, IsAtOrAbove, text_of, joined, stands, longest}
use Rattle.faults.specs.declared.faults.Fault.{Fault}
use Rattle.faults.specs.declared.faults.Fault.TheVariants.{BadPath, NotADataset}
use Rattle.dl_words.specs.declared.words.Word.{Word}
use Rattle.repository.specs.All.{head_place}
use Rattle.datalad_cli.specs.Words.{place_by}

-- The place of HEAD in a dataset's repository, where it isn't longer than places are.
abbrev pub head_within : Names → Option Names
head_within root =
    if nat_lt longest (length (text_of (head_place root))) then None else Some (head_place root)

-- HEAD has a place in the repository of a root.
abbrev pub HasRoom : Names → Type 0
HasRoom root = length (joined root (codes ".dlrepo/HEAD")) ≤ longest

-- Whether a file stands at a place, where there is one.
abbrev pub stands_within : Ground → Option Names → Bool
stands_within g None = false
stands_within g (Some place) = stands g place

-- Whether a place is the root of a dataset: a file stands where its HEAD does.
abbrev pub is_root : Ground → Names → Bool
is_root g place = stands_within g (head_within place)

-- The nearest root at or above a place, whose names are given from the last one up.
abbrev pub root_up : Names → Ground → Option Names
root_up [] g = if is_root g [] then Some [] else None
root_up (name ∷ above) g =
    if is_root g (reverse (name ∷ above)) then Some (reverse (name ∷ above)) else root_up above g

-- The nearest root at or above a place.
unfoldable pub root_at : Names → Ground → Option Names
root_at place g = root_up (reverse place) g

-- Where a command works: in the nearest dataset at or above a place; or in that whose root a word
-- names, by where the word leads and its index.
pub data Location : Type 0 where
  Near : Names → Location
  At : Option Names → ℕ → Location

-- The location by the working directory and the word that may name a dataset.
abbrev pub location_by : Names → Option Word → Location
location_by cwd None = Near cwd
location_by cwd (Some word) = At (place_by cwd word.text) word.index

-- The root of the dataset in which a command works, if there is one.
abbrev pub root_in : Location → Ground → Option Names
root_in (Near place) g = root_at place g
root_in (At None index) g = None
root_in (At (Some place) index) g = if is_root g place then Some place else None

-- The refusal where there is none.
abbrev pub no_root : Location → Fault
no_root (Near place) = NotADataset place
no_root (At None index) = BadPath index
no_root (At (Some place) index) = NotADataset place

-- What a root is to a location, whatever stands: at or above the place, or the one that is named.
abbrev pub IsRootOf : Location → Names → Type 0
IsRootOf (Near place) root = IsAtOrAbove root place
IsRootOf (At to index) root = to ≡ Some root
