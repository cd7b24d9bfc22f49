-- What stands at a place, and what is listed below one.
use Rattle.std.specs.Prelude.{◌≡◌, ℕ, Bool, true, false, not, ◌&&◌, ◌==◌, nat_lt, if◌then◌else◌}
use Rattle.std.specs.Prelude.{List, [], ◌∷◌, ◌++◌, length, IsTrue, bytes_eq, map}
use Rattle.std.specs.List.{list_all, list_any}
use Rattle.std.specs.List.Sorted.{IsStrictlySortedBy}
use Rattle.std.specs.Ordering.{nat_cmp}
use Rattle.std.specs.Cmp.Lexicographic.{slice_cmp}
use Rattle.places.specs.All.{Names, slash, Ground, stands, stands_below}
use Rattle.file_store.specs.declared.kinds.Kind.{Kind}
use Rattle.file_store.specs.declared.kinds.Kind.TheVariants.{Absent, File, Dir, Other}
use Rattle.file_store.specs.declared.kinds.Item.{Item}

-- A directory is where a file stands below.
abbrev pub kind_at : Ground → Names → Kind
kind_at g p = if stands g p then File else (if stands_below g p then Dir else Absent)

-- Not empty, `.` or `..`, and without a slash and NUL.
abbrev pub is_item_name : List ℕ → Bool
is_item_name name =
    nat_lt 0 (length name) && not (bytes_eq name (46 ∷ [])) && not (bytes_eq name (46 ∷ 46 ∷ []))
    && not (list_any (λ b. b == 0) name) && not (list_any (λ b. b == slash) name)

-- The names of the items.
abbrev pub names_in : List Item → Names
names_in items = map (λ item. item.name) items

-- Whether something stands there.
abbrev pub is_there : Kind → Bool
is_there Absent = false
is_there File = true
is_there Dir = true
is_there Other = true

-- Under each name something stands.
abbrev pub AreThere : List Item → Type 0
AreThere items = IsTrue (list_all (λ item. is_there item.kind) items)

-- What every answer of a listing keeps: its names may stand between slashes, and ascend in byte
-- order, and under each of them something stands.
pub record AreListed (items : List Item) : Type 0 where
  pub names : IsTrue (list_all is_item_name (names_in items))
  pub there : AreThere items
  pub ascending : IsStrictlySortedBy (slice_cmp nat_cmp) (names_in items)

-- The kind under a name, Absent where the name isn't listed.
abbrev pub listed_kind : List ℕ → List Item → Kind
listed_kind name [] = Absent
listed_kind name (item ∷ items) =
    if bytes_eq name item.name then item.kind else listed_kind name items

-- Each name directly below, with what stands there.
abbrev pub IsListing : Ground → Names → List Item → Type 0
IsListing g p items = (name : List ℕ) → listed_kind name items ≡ kind_at g (p ++ name ∷ [])
