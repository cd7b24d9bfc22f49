-- Which bytes are an index.
use Rattle.std.specs.Prelude.{◌≡◌, ℕ, ◌-◌, ◌<◌, ◌^◌, List, [], ◌++◌, length, take, drop}
use Rattle.std.specs.List.{flat_map}
use Rattle.sha1.specs.Sha1.{sha1}
use Rattle.index_file.specs.declared.entries.IndexEntry.{IndexEntry}
use Rattle.index_file.specs.Entries.{AscendFrom, entry_text, last_path}
use Rattle.index_file.specs.Pieces.{IsEntryText, IsExtension, IsHead, head_text}
use Rattle.index_file.specs.Things.{AreThings}

-- A list that has an index: its paths ascend, no entry is a directory, and four bytes have the
-- count.
pub record IsIndex (list : List IndexEntry) : Type 0 where
  pub few : length list < 2 ^ 32
  pub ascend : AscendFrom [] list

-- An index without its SHA-1, as it is written: the head and the entries.
unfoldable pub body_text : List IndexEntry → List ℕ
body_text list = head_text (length list) ++ flat_map entry_text list

-- The text that is written.
abbrev pub index_text : List IndexEntry → List ℕ
index_text list = body_text list ++ sha1 (body_text list)

-- All but the last 20 bytes. Of fewer than 20 bytes it is nothing.
abbrev pub body_of : List ℕ → List ℕ
body_of bytes = take (length bytes - 20) bytes

-- The last 20 bytes.
abbrev pub sum_of : List ℕ → List ℕ
sum_of bytes = drop (length bytes - 20) bytes

-- These entries stand at the front, each above the one before.
abbrev pub AreEntries : List IndexEntry → List ℕ → List ℕ → Type 0
AreEntries list text after =
    AreThings (λ before entry. IsEntryText (last_path before) entry) [] list text after

-- Extensions that are passed over stand at the front, one after the other.
abbrev pub AreExtensions : List (List ℕ) → List ℕ → List ℕ → Type 0
AreExtensions extensions text after =
    AreThings (λ before bytes. IsExtension bytes) [] extensions text after

-- An index without its SHA-1: the head, as many entries as it says, and extensions to the end.
pub record IsBody (list : List IndexEntry) (body : List ℕ) : Type 0 where
  pub behind_head : List ℕ
  pub behind_entries : List ℕ
  pub extensions : List (List ℕ)
  pub head : IsHead (length list) body behind_head
  pub entries : AreEntries list behind_head behind_entries
  pub passed : AreExtensions extensions behind_entries []

-- The grammar: bytes are an index of this list, and end in the SHA-1 of all before it.
pub record IsIndexText (bytes : List ℕ) (list : List IndexEntry) : Type 0 where
  pub body : IsBody list (body_of bytes)
  pub sum : sum_of bytes ≡ sha1 (body_of bytes)
