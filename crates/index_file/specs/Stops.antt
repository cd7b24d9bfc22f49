-- Where bytes that are no index stop being one.
use Rattle.std.specs.Prelude.{◌≡◌, ◌⊎◌, ℕ, ◌+◌, ◌<◌, List, [], length}
use Rattle.sha1.specs.Sha1.{sha1}
use Rattle.index_file.specs.declared.entries.IndexEntry.{IndexEntry}
use Rattle.index_file.specs.Entries.{last_path}
use Rattle.index_file.specs.Index.{AreEntries, AreExtensions, IsBody, body_of, sum_of}
use Rattle.index_file.specs.Pieces.{IsExtension, IsFlags, IsHead, IsIdText, IsModeText, IsPadding}
use Rattle.index_file.specs.Pieces.{IsPassed, IsPathText}
use Rattle.index_file.specs.Things.{Lacking, StopsIn, piled}

-- The padding behind a path isn't there.
pub record StopsInPadding (size : ℕ) (text : List ℕ) (left : ℕ) : Type 0 where
  pub lacking : (after : List ℕ) → IsPadding size text after → ⊥
  pub place : left ≡ length text

-- The path, or its padding, isn't there.
abbrev pub StopsInPath : List ℕ → ℕ → List ℕ → ℕ → Type 0
StopsInPath last mark = StopsIn (IsPathText last mark) (λ path. StopsInPadding (length path))

-- The first of an entry's things that isn't there: the six numbers, the mode, the three numbers,
-- the id, the flags, the path, its padding.
abbrev pub StopsInEntry : List ℕ → List ℕ → ℕ → Type 0
StopsInEntry last =
    StopsIn (IsPassed 24) (λ six.
    StopsIn IsModeText (λ mode.
    StopsIn (IsPassed 12) (λ three.
    StopsIn IsIdText (λ id.
    StopsIn IsFlags (λ mark.
    StopsInPath last mark)))))

-- Fewer entries stand than the head says, and the next one stops.
pub record StopsInEntries (count : ℕ) (text : List ℕ) (left : ℕ) : Type 0 where
  pub list : List IndexEntry
  pub rest : List ℕ
  pub entries : AreEntries list text rest
  pub few : length list < count
  pub stops : StopsInEntry (last_path (piled [] list)) rest left

-- Extensions stand at the front, and something else follows.
pub record StopsInExtensions (text : List ℕ) (left : ℕ) : Type 0 where
  pub extensions : List (List ℕ)
  pub rest : List ℕ
  pub passed : AreExtensions extensions text rest
  pub more : rest ≡ [] → ⊥
  pub lacking : Lacking IsExtension rest
  pub place : left ≡ length rest

-- All entries stand, and what is behind them stops.
pub record StopsBehindEntries (count : ℕ) (text : List ℕ) (left : ℕ) : Type 0 where
  pub list : List IndexEntry
  pub rest : List ℕ
  pub entries : AreEntries list text rest
  pub all : length list ≡ count
  pub stops : StopsInExtensions rest left

-- The head isn't there; or an entry stops, or what is behind the entries.
abbrev pub StopsInBody : List ℕ → ℕ → Type 0
StopsInBody =
    StopsIn IsHead (λ count text left.
    StopsInEntries count text left ⊎ StopsBehindEntries count text left)

-- The bytes are no index. Up to here each thing is as in one, and the thing that should begin at
-- this byte isn't there, or isn't whole before the last 20 bytes; or all is there, and only these
-- 20 bytes are not the SHA-1.
pub data StopsAt (bytes : List ℕ) (at : ℕ) : Type 0 where
  within : (left : ℕ) → StopsInBody (body_of bytes) left → at + left ≡ length (body_of bytes)
      → StopsAt bytes at
  in_sum : (list : List IndexEntry) → IsBody list (body_of bytes)
      → (sum_of bytes ≡ sha1 (body_of bytes) → ⊥) → at ≡ length (body_of bytes) → StopsAt bytes at
