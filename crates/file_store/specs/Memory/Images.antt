-- What a crash may leave, by a choice for each place at which it has one.
use Rattle.std.specs.Prelude.{◌≡◌, ◌==◌, ◌/◌, ℕ, if◌then◌else◌, false, List, length, take, get_or}
use Rattle.std.specs.Prelude.{replicate, Option, Some, option_map}
use Rattle.std.specs.List.{list_any, slice_get}
use Rattle.std.specs.List.Sorted.{IsStrictlySortedBy}
use Rattle.places.specs.All.{Names, place_cmp, place_eq, Ground, file_at}
use Rattle.file_store.specs.Disk.{Disk, is_open}

-- The places at which a crash may leave something else than what stands there, in byte order.
pub record AreOpen (d : Disk) (places : List Names) : Type 0 where
  pub all : (q : Names) → list_any (place_eq q) places ≡ is_open d q
  pub ascending : IsStrictlySortedBy place_cmp places

-- Of a torn file the choice 2 leaves the first half of its bytes, the length rounded down, and 3
-- as many zero bytes. Any other leaves all of it.
abbrev pub torn_by : ℕ → List ℕ → List ℕ
torn_by choice bytes =
    if choice == 2 then take (length bytes / 2) bytes
    else (if choice == 3 then replicate (length bytes / 2) 0 else bytes)

-- At a place the choice 0 leaves what is safe there. Any other leaves what stands there now, and
-- where that is torn, as much of it as the choice says.
abbrev pub left_by : ℕ → Disk → Names → Option (List ℕ)
left_by choice d p =
    if choice == 0 then file_at d.safe p
    else (if d.torn p then option_map (torn_by choice) (file_at d.now p) else file_at d.now p)

-- The i-th of the places has what the i-th choice leaves there, and a missing choice counts as 0.
-- At every other place is what stands there now.
pub record IsChosen (d : Disk) (places : List Names) (choices : List ℕ) (g : Ground)
    : Type 0 where
  pub chosen : (i : ℕ) (p : Names) → slice_get places i ≡ Some p
      → file_at g p ≡ left_by (get_or choices i 0) d p
  pub others : (q : Names) → list_any (place_eq q) places ≡ false
      → file_at g q ≡ file_at d.now q

-- What a crash leaves by a choice for each open place, the first choice for the first of them.
abbrev pub IsLeft : Disk → List ℕ → Ground → Type 0
IsLeft d choices g = (places : List Names) × AreOpen d places × IsChosen d places choices g
