-- The objects of a repository whose ids begin with some digits.
use Rattle.std.specs.Prelude.{◌≡◌, ℕ, Bool, true, false, ◌&&◌, ◌||◌, ◌==◌, if◌then◌else◌, nat_eq}
use Rattle.std.specs.Prelude.{nat_lt, List, ◌++◌, length, map, slice_index, bytes_eq, Option, None}
use Rattle.std.specs.BTreeSet.{BTreeSet, contains}
use Rattle.std.specs.List.{All, list_all, list_any, starts_with}
use Rattle.std.specs.List.Sorted.{IsStrictlySortedBy}
use Rattle.std.specs.Ordering.{nat_cmp}
use Rattle.std.specs.Cmp.Lexicographic.{slice_cmp}
use Rattle.places.specs.All.{Names, text_of, Ground, stands}
use Rattle.file_store.specs.declared.kinds.Kind.{Kind}
use Rattle.file_store.specs.declared.kinds.Kind.TheVariants.{Absent, File, Dir, Other}
use Rattle.file_store.specs.declared.kinds.Item.{Item}
use Rattle.faults.specs.declared.faults.Fault.{Fault}
use Rattle.faults.specs.declared.faults.Fault.TheVariants.{TooLarge}
use Rattle.git_objects.specs.All.{IsId, hex_of}
use Rattle.git_objects.specs.declared.ids.Id.{Id}
use Rattle.repository.specs.All.{large, object_limit, object_place}
use Rattle.object_store.specs.Reads.{HasNoPlaces}

-- The refusal of a repository whose place is too long for objects to have places.
abbrev pub long_objects : Names → Option Fault
long_objects repo = if nat_lt object_limit (length (text_of repo)) then large repo else None

-- Whether the lower-case digits of an id begin so.
abbrev pub begins_with : List ℕ → List ℕ → Bool
begins_with digits id = starts_with nat_eq (hex_of id) digits

-- Ids that begin with some digits, ascending.
pub record BeginWith (digits : List ℕ) (ids : List Id) : Type 0 where
  pub ascending : IsStrictlySortedBy (slice_cmp nat_cmp) (map (λ id. id.0) ids)
  pub begin : list_all (λ id. begins_with digits id.0) ids ≡ true
  pub own : All (λ id. IsId id.0) ids

-- These are all ids that begin so and under which an object's file stands, ascending.
pub record AreIdsWith (repo : Names) (digits : List ℕ) (g : Ground) (ids : List Id) : Type 0 where
  pub fits : long_objects repo ≡ None
  pub form : BeginWith digits ids
  pub among : (id : List ℕ) → IsId id → list_any (λ found. bytes_eq found.0 id) ids
      ≡ (begins_with digits id && stands g (object_place repo id))

-- The faults with which a search for ids may be refused, whatever the files tell.
abbrev pub MaySearch : Names → Fault → Type 0
MaySearch repo (TooLarge path size) = HasNoPlaces repo path size
MaySearch repo fault = ⊥

-- Whether a set has the id.
abbrev pub has_id : BTreeSet (List ℕ) → List ℕ → Bool
has_id ids id = contains (slice_cmp nat_cmp) ids id

-- All ids of a set begin so.
pub record AllBegin (digits : List ℕ) (ids : BTreeSet (List ℕ)) : Type 0 where
  pub each : (id : List ℕ) → has_id ids id ≡ true → begins_with digits id ≡ true

-- A set has got the ids that pass a test, and no others.
pub record Adds (test : List ℕ → Bool) (before after : BTreeSet (List ℕ)) : Type 0 where
  pub each : (id : List ℕ) → IsId id → has_id after id ≡ (has_id before id || test id)

-- Whether a file stands there.
abbrev pub is_file : Kind → Bool
is_file Absent = false
is_file File = true
is_file Dir = false
is_file Other = false

-- The item of a directory under two digits is the file of the object with this id.
abbrev pub is_file_of : List ℕ → List ℕ → Item → Bool
is_file_of pair id item = is_file item.kind && bytes_eq (hex_of id) (pair ++ item.name)

-- The id begins so, and one of the items is its object's file.
abbrev pub is_item_with : List ℕ → List ℕ → List Item → List ℕ → Bool
is_item_with digits pair items id = begins_with digits id && list_any (is_file_of pair id) items

-- The id begins so, and a file stands at its object's place.
abbrev pub stands_with : Names → List ℕ → Ground → List ℕ → Bool
stands_with repo digits g id = begins_with digits id && stands g (object_place repo id)

-- The same, and this is its first byte.
abbrev pub stands_under : Names → List ℕ → ℕ → Ground → List ℕ → Bool
stands_under repo digits first g id = stands_with repo digits g id && slice_index id 0 == first

-- A set has all ids that begin so and under which an object's file stands.
pub record HaveIdsWith (repo : Names) (digits : List ℕ) (g : Ground) (ids : BTreeSet (List ℕ))
    : Type 0 where
  pub each : (id : List ℕ) → IsId id → has_id ids id ≡ stands_with repo digits g id
