-- Names that end in a group.
use Rattle.std.specs.Prelude.{◌≡◌, ◌≢◌, ℕ, ◌<◌, true, List, ◌∷◌, ◌++◌, length, slice_index}
use Rattle.annex_keys.specs.Extensions.{dot, is_group}

-- No dot stands before this place.
abbrev pub NoDotBelow : List ℕ → ℕ → Type 0
NoDotBelow name end = (k : ℕ) → k < end → slice_index name k ≢ dot

-- Of the dots before a place the last stands here.
pub record IsLastDotBelow (name : List ℕ) (end at : ℕ) : Type 0 where
  pub within : at < end
  pub here : slice_index name at ≡ dot
  pub last : (k : ℕ) → at < k → k < end → slice_index name k ≢ dot

-- A dot stands here, and a group follows it to the end.
pub record EndsInGroup (name : List ℕ) (at : ℕ) : Type 0 where
  pub before : List ℕ
  pub group : List ℕ
  pub parts : name ≡ before ++ dot ∷ group
  pub each : is_group group ≡ true
  pub place : at ≡ length before

-- The name doesn't end in a dot and a group.
abbrev pub NoGroupAtEnd : List ℕ → Type 0
NoGroupAtEnd name = (at : ℕ) → EndsInGroup name at → ⊥
