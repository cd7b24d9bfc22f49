-- The key of bytes, and the directories of a key.
use Rattle.std.specs.Prelude.{◌≡◌, ℕ, List, ◌∷◌, ◌++◌, length, take, drop}
use Rattle.sha2.specs.Sha256.{sha256}
use Rattle.md5.specs.Md5.{md5}
use Rattle.hex.specs.Hex.{encode_lower}
use Rattle.annex_keys.specs.declared.keys.Backend.TheVariants.{Sha256E}
use Rattle.annex_keys.specs.Extensions.{ext_of}
use Rattle.annex_keys.specs.Keys.{key_text}
use Rattle.annex_keys.specs.Plain.{PlainKey}

-- The key that bytes get under a file name.
unfoldable pub key_of : List ℕ → List ℕ → PlainKey
key_of bytes name = record {
  backend = Sha256E;
  size = length bytes;
  digest = sha256 bytes;
  ext = ext_of name;
}

-- The bytes have the size and the digest of the key.
pub record Matches (key : PlainKey) (bytes : List ℕ) : Type 0 where
  pub size : key.size ≡ length bytes
  pub digest : key.digest ≡ sha256 bytes

-- The first three of these digits, a slash, and the next three.
abbrev pub directories : List ℕ → List ℕ
directories digits = take 3 digits ++ 47 ∷ take 3 (drop 3 digits)

-- The directories of a key, by the MD5 of its text.
unfoldable pub hash_dir : PlainKey → List ℕ
hash_dir key = directories (encode_lower (md5 (key_text key)))
