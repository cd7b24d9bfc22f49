-- Files that are replaced by way of other places.
use Rattle.std.specs.Prelude.{◌≡◌, ◌≢◌, ℕ, Bool, true, false, IsTrue, if◌then◌else◌, List, [], ◌∷◌}
use Rattle.std.specs.Prelude.{map, slice_get, Option, Some, None, Result, Ok, Err}
use Rattle.std.specs.FinMap.{insert, remove}
use Rattle.places.specs.All.{Names, Ground, is_shut}
use Rattle.file_store.specs.Disk.{Drive, at_rest}
use Rattle.file_store.specs.Course.{Round}
use Rattle.file_store.specs.Ends.{present}
use Rattle.file_store.specs.declared.errors.FileErr.{FileErr}
use Rattle.file_store.specs.declared.errors.FileErr.TheVariants.{Failed, Blocked, NoMemory}
use Rattle.file_store.specs.declared.replacing.Replacement.{Replacement}

-- The ground with one file replaced: nothing is left at the temporary place.
abbrev pub replaced : Names → Names → List ℕ → Ground → Ground
replaced tmp place bytes g = insert (remove g tmp) place bytes

-- With each file at its temporary place.
abbrev pub staged : List Replacement → Ground → Ground
staged [] g = g
staged (r ∷ list) g = staged list (insert g r.tmp r.bytes)

-- With each file moved from there to its place.
abbrev pub installed : List Replacement → Ground → Ground
installed [] g = g
installed (r ∷ list) g = installed list (replaced r.tmp r.place r.bytes g)

-- With all files replaced.
abbrev pub all_replaced : List Replacement → Ground → Ground
all_replaced list g = installed list (staged list g)

-- The first temporary place that is shut while the files are written there.
abbrev pub stage_block : List Replacement → Ground → Option Names
stage_block [] g = None
stage_block (r ∷ list) g =
    if is_shut g r.tmp then Some r.tmp else stage_block list (insert g r.tmp r.bytes)

-- The first place that is shut while they are moved.
abbrev pub move_block : List Replacement → Ground → Option Names
move_block [] g = None
move_block (r ∷ list) g =
    if is_shut g r.place then Some r.place else move_block list (replaced r.tmp r.place r.bytes g)

-- The first of two, or the second where it is none.
abbrev pub or_next : {A : Type 0} → Option A → Option A → Option A
or_next None next = next
or_next (Some a) next = Some a

-- The place at which the replacements are refused, if they are.
abbrev pub block_of : List Replacement → Ground → Option Names
block_of list g = or_next (stage_block list g) (move_block list (staged list g))

-- The very first write is refused.
abbrev pub first_shut : List Replacement → Ground → Bool
first_shut [] g = false
first_shut (r ∷ list) g = is_shut g r.tmp

-- No two have one temporary place or one place, and no temporary place is a place.
pub record AreApart (list : List Replacement) : Type 0 where
  pub tmps : (i j : ℕ) (r s : Replacement) → slice_get list i ≡ Some r → slice_get list j ≡ Some s
      → i ≢ j → r.tmp ≢ s.tmp
  pub both : (i j : ℕ) (r s : Replacement) → slice_get list i ≡ Some r → slice_get list j ≡ Some s
      → r.tmp ≢ s.place
  pub places : (i j : ℕ) (r s : Replacement) → slice_get list i ≡ Some r → slice_get list j ≡ Some s
      → i ≢ j → r.place ≢ s.place

-- None of their temporary places.
abbrev pub IsNoTmp : List Replacement → Names → Type 0
IsNoTmp list q = (i : ℕ) (r : Replacement) → slice_get list i ≡ Some r → q ≢ r.tmp

-- Each place with its bytes.
abbrev pub round_of : List Replacement → Round
round_of list = map (λ r. (r.place, Some r.bytes)) list

-- The rounds of a replacement: none where the very first write is refused.
abbrev pub replacing : List Replacement → Ground → List Round
replacing list g = if first_shut list g then [] else round_of list ∷ []

-- The replacement of one file, as a list.
abbrev pub only : Names → Names → List ℕ → List Replacement
only tmp place bytes = record { tmp = tmp; place = place; bytes = bytes } ∷ []

-- All of them are replaced and safe; or the first place that is shut is named, and where that is
-- the first temporary place nothing has changed; or the device failed; or memory was wanting.
abbrev pub ReplaceEnds : Bool → List Replacement → Drive → Drive → Result (Unit {0}) FileErr
    → Type 0
ReplaceEnds tells list old new (Ok _) =
    IsTrue tells → (new.history.latest ≡ at_rest (all_replaced list (present old)))
    × (block_of list (present old) ≡ None)
ReplaceEnds tells list old new (Err Failed) = Unit {0}
ReplaceEnds tells list old new (Err (Blocked at)) =
    IsTrue tells × (block_of list (present old) ≡ Some at)
    × (first_shut list (present old) ≡ true → new.history ≡ old.history)
ReplaceEnds tells list old new (Err NoMemory) = Unit {0}
