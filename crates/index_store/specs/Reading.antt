-- What is read of an index, step by step.
use Rattle.std.specs.Prelude.{◌≡◌, ◌≤◌, ◌<◌, ℕ, List, Option, Some, None, length}
use Rattle.std.specs.Prelude.{Vec}
use Rattle.std.specs.declared.alloc.Global.{Global}
use Rattle.places.specs.All.{Names, Ground, file_at, longest, text_of}
use Rattle.faults.specs.declared.faults.Fault.{Fault}
use Rattle.repository.specs.All.{index_place}
use Rattle.index_store.specs.Indexes.{index_limit}

-- Reading an index is never refused.
abbrev pub NeverRefuses : Ground → Fault → Type 0
NeverRefuses g fault = ⊥

-- Where an index stands; none where that is longer than places are.
abbrev pub IsNear : Names → Option Names → Type 0
IsNear root None = longest < length (text_of (index_place root))
IsNear root (Some place) =
    (place ≡ index_place root) × (length (text_of (index_place root)) ≤ longest)

-- Bytes that an index may have stand at its place.
pub record AreBytes (root : Names) (g : Ground) (bytes : List ℕ) : Type 0 where
  pub short : length (text_of (index_place root)) ≤ longest
  pub stands : file_at g (index_place root) ≡ Some bytes
  pub few : length bytes ≤ index_limit

-- The bytes at an index's place, if an index may have them.
abbrev pub IsBytes : Names → Ground → Option (Vec ℕ Global) → Type 0
IsBytes root g None = (bytes : List ℕ) → AreBytes root g bytes → ⊥
IsBytes root g (Some bytes) = AreBytes root g bytes.items
