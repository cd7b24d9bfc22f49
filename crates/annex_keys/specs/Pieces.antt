-- What follows in a key's text, piece by piece.
use Rattle.std.specs.Prelude.{◌≡◌, ℕ, ◌<◌, ◌^◌, Bool, false, List, [], ◌∷◌, ◌++◌, codes, decimal}
use Rattle.hex.specs.Hex.{encode_lower}
use Rattle.annex_keys.specs.Extensions.{IsExt}
use Rattle.annex_keys.specs.Keys.{IsDigest}

-- A fixed front, and then a text of the grammar.
pub record Behind (front : List ℕ) (grammar : List ℕ → Type 0) (text : List ℕ) : Type 0 where
  pub rest : List ℕ
  pub follows : grammar rest
  pub printed : text ≡ front ++ rest

-- A digest and an extension.
pub record IsDigestText (text : List ℕ) : Type 0 where
  pub digest : List ℕ
  pub ext : List ℕ
  pub stored : IsDigest digest
  pub extended : IsExt ext
  pub printed : text ≡ encode_lower digest ++ ext

-- Two dashes, and what follows.
abbrev pub IsDashed : List ℕ → Type 0
IsDashed text = Behind (codes "--") IsDigestText text

-- A size, and what follows.
pub record IsSizeText (text : List ℕ) : Type 0 where
  pub size : ℕ
  pub rest : List ℕ
  pub small : size < 2 ^ 64
  pub follows : IsDashed rest
  pub printed : text ≡ decimal size ++ rest

-- What stands before the size.
abbrev pub key_front : List ℕ
key_front = codes "SHA256E-s"

-- Nothing, or a byte that doesn't pass.
abbrev pub NoFirst : (ℕ → Bool) → List ℕ → Type 0
NoFirst passes [] = Unit {0}
NoFirst passes (b ∷ bs) = passes b ≡ false
