-- Keys, and their texts.
use Rattle.std.specs.Prelude.{◌≡◌, ℕ, ◌<◌, ◌^◌, List, ◌++◌, codes, decimal, length}
use Rattle.hex.specs.Hex.{IsBytes, encode_lower}
use Rattle.annex_keys.specs.declared.keys.Backend.{Backend}
use Rattle.annex_keys.specs.declared.keys.Backend.TheVariants.{Sha256E}
use Rattle.annex_keys.specs.Extensions.{IsExt}
use Rattle.annex_keys.specs.Plain.{PlainKey}

-- The name of a backend.
abbrev pub backend_text : Backend → List ℕ
backend_text Sha256E = codes "SHA256E"

-- The 32 bytes of a SHA-256.
pub record IsDigest (digest : List ℕ) : Type 0 where
  pub whole : length digest ≡ 32
  pub bytes : IsBytes digest

-- What each key keeps: a size of at most 64 bits, a digest, and an extension.
pub record IsKey (key : PlainKey) : Type 0 where
  pub size : key.size < 2 ^ 64
  pub digest : IsDigest key.digest
  pub ext : IsExt key.ext

-- BACKEND-sSIZE--DIGESTEXT
unfoldable pub key_text : PlainKey → List ℕ
key_text key =
    backend_text key.backend
    ++ (codes "-s" ++ (decimal key.size ++ (codes "--" ++ (encode_lower key.digest ++ key.ext))))

-- The grammar: a text is that of a key.
pub record IsTextOf (key : PlainKey) (text : List ℕ) : Type 0 where
  pub stored : IsKey key
  pub printed : text ≡ key_text key

-- Some key has this text.
pub record IsKeyText (text : List ℕ) : Type 0 where
  pub key : PlainKey
  pub reads : IsTextOf key text
