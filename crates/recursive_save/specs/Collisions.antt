-- The first objects with their ids, as the program keeps them.
use Rattle.std.specs.Prelude.{◌≡◌, ℕ, List, Option, Some, None, bytes_eq, if◌then◌else◌}
use Rattle.std.specs.Ordering.{nat_cmp}
use Rattle.std.specs.Cmp.Lexicographic.{slice_cmp}
use Rattle.std.specs.BTreeMap.{BTreeMap, get}

-- The index of the first object with each id, among those so far.
abbrev pub Firsts : Type 0
Firsts = BTreeMap (List ℕ) ℕ

-- The index of the first with this id, if any.
abbrev pub first_in : Firsts → List ℕ → Option ℕ
first_in firsts id = get (slice_cmp nat_cmp) firsts id

-- An index, and else the next one.
abbrev pub or_index : Option ℕ → ℕ → ℕ
or_index None index = index
or_index (Some first) index = first

-- The first with an id once the object at an index has it, and what is known then.
pub record IsFirst (id : List ℕ) (index : ℕ) (before after : Firsts) (first : ℕ) : Type 0 where
  pub is : first ≡ or_index (first_in before id) index
  pub known : (other : List ℕ)
      → first_in after other ≡ (if bytes_eq id other then Some first else first_in before other)
