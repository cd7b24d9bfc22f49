-- Keys as contracts see them.
use Rattle.std.specs.Prelude.{ℕ, List}
use Rattle.annex_keys.specs.declared.keys.Backend.{Backend}

-- A key without where it lies in memory: the digest is its bytes.
pub record PlainKey : Type 0 where
  pub backend : Backend
  pub size : ℕ
  pub digest : List ℕ
  pub ext : List ℕ
