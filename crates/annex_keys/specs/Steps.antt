-- What the front of a text shows, step by step.
use Rattle.std.specs.Prelude.{◌≡◌, ℕ, zero, suc, ◌+◌, ◌<◌, ◌^◌, Bool, true, ◌||◌, ◌&&◌, ◌⊎◌}
use Rattle.std.specs.Prelude.{codes, nat_le, List, [], ◌∷◌, ◌++◌, decimal, length, slice_index}
use Rattle.std.specs.Prelude.{take}
use Rattle.std.specs.Char.{is_ascii_alphanumeric, is_ascii_digit}
use Rattle.hex.specs.Hex.{encode_lower}
use Rattle.annex_keys.specs.Extensions.{IsExt, dot, is_group}
use Rattle.annex_keys.specs.Keys.{IsDigest}
use Rattle.annex_keys.specs.Pieces.{NoFirst, key_front}
use Rattle.annex_keys.specs.Stops.{StopsAt}

-- The text stops being one of the grammar where this many bytes are left.
pub record StopsWith (grammar : List ℕ → Type 0) (text : List ℕ) (left : ℕ) : Type 0 where
  pub at : ℕ
  pub stops : StopsAt grammar text at
  pub place : at + left ≡ length text

-- Where this many bytes are left the text stops beginning with this front.
pub record StopsFront (front text : List ℕ) (left : ℕ) : Type 0 where
  pub at : ℕ
  pub place : at + left ≡ length text
  pub early : at < length front
  pub same : take at text ≡ take at front
  pub other : at < length text → slice_index text at ≡ slice_index front at → ⊥

-- A size stands at the front, and no digit follows.
pub record IsSizeFront (text : List ℕ) (size : ℕ) (rest : List ℕ) : Type 0 where
  pub small : size < 2 ^ 64
  pub printed : text ≡ decimal size ++ rest
  pub ends : NoFirst is_ascii_digit rest

-- `0` to `9` or `a` to `f`.
abbrev pub is_lower_digit : ℕ → Bool
is_lower_digit b = is_ascii_digit b || (nat_le 97 b && nat_le b 102)

-- A dot and a group stand at the front; the group has four bytes, or none that it could take
-- follows.
pub record IsGroupFront (text rest : List ℕ) : Type 0 where
  pub group : List ℕ
  pub each : is_group group ≡ true
  pub printed : text ≡ dot ∷ (group ++ rest)
  pub ends : (length group ≡ 4) ⊎ NoFirst is_ascii_alphanumeric rest

-- No dot stands at the front, or a dot and nothing that a group could take.
abbrev pub StopsGroup : List ℕ → ℕ → Type 0
StopsGroup [] left = ⊥
StopsGroup (b ∷ bs) left =
    ((b ≡ dot → ⊥) × (left ≡ length bs + 1))
    ⊎ ((b ≡ dot) × NoFirst is_ascii_alphanumeric bs × (left ≡ length bs))

-- An extension of at most so many groups, group by group.
abbrev pub IsExtUpTo : ℕ → List ℕ → Type 0
IsExtUpTo zero text = text ≡ []
IsExtUpTo (suc n) text =
    (text ≡ [])
    ⊎ ((group : List ℕ) × (rest : List ℕ) × (is_group group ≡ true) × IsExtUpTo n rest
    × (text ≡ dot ∷ (group ++ rest)))

-- A digest and an extension are the text.
pub record IsDigestOf (text digest ext : List ℕ) : Type 0 where
  pub stored : IsDigest digest
  pub extended : IsExt ext
  pub printed : text ≡ encode_lower digest ++ ext

-- The same behind two dashes.
pub record IsDashedOf (text digest ext : List ℕ) : Type 0 where
  pub stored : IsDigest digest
  pub extended : IsExt ext
  pub printed : text ≡ codes "--" ++ (encode_lower digest ++ ext)

-- The same behind a size.
pub record IsSizeOf (text : List ℕ) (size : ℕ) (digest ext : List ℕ) : Type 0 where
  pub small : size < 2 ^ 64
  pub stored : IsDigest digest
  pub extended : IsExt ext
  pub printed : text ≡ decimal size ++ (codes "--" ++ (encode_lower digest ++ ext))

-- The same behind what stands before the size.
pub record IsPlainKey (text : List ℕ) (size : ℕ) (digest ext : List ℕ) : Type 0 where
  pub small : size < 2 ^ 64
  pub stored : IsDigest digest
  pub extended : IsExt ext
  pub printed : text ≡ key_front ++ (decimal size ++ (codes "--" ++ (encode_lower digest ++ ext)))
