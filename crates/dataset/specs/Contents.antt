-- Rounds in which contents are put, and rounds in which their logs are set.
use Rattle.std.specs.Prelude.{◌≡◌, ◌⊎◌, ℕ, false, List, [], ◌∷◌, Option, Some}
use Rattle.places.specs.All.{Names, Ground}
use Rattle.annex_keys.specs.All.{IsKey, Matches, PlainKey}
use Rattle.location_log.specs.All.{IsLogText, IsPresent, PlainLine}
use Rattle.file_store.specs.All.{Round, changed}
use Rattle.repository.specs.All.{repo_of}
use Rattle.annex_store.specs.All.{Stands, content_place, log_place}
use Rattle.dataset.specs.Watched.{IsRoot, is_watched}
use Rattle.dataset.specs.Sound.{HasUuid, HoldsContents, SameHeads}
use Rattle.dataset.specs.Rounds.{LiesWatched, KeepsSound}

-- A content is put: bytes that match a key, at the place of its content.
pub record IsContentPut (root : Names) (q : Names) (v : Option (List ℕ)) : Type 0 where
  pub key : PlainKey
  pub stored : IsKey key
  pub bytes : List ℕ
  pub place : q ≡ content_place (repo_of root) key
  pub file : v ≡ Some bytes
  pub matching : Matches key bytes

-- A log is set: a text of lines, at the place of a key's log; and where these lines say that the
-- repository itself has the content, it stands.
pub record IsLogSet (root : Names) (g : Ground) (q : Names) (v : Option (List ℕ)) : Type 0 where
  pub key : PlainKey
  pub stored : IsKey key
  pub lines : List PlainLine
  pub text : List ℕ
  pub place : q ≡ log_place (repo_of root) key
  pub file : v ≡ Some text
  pub formed : IsLogText lines text
  pub honest : (uuid : List ℕ) → HasUuid root uuid g → IsPresent lines uuid
      → Stands (repo_of root) key g

-- Each change of a round is one of these, or is of an unwatched place, as that of an unfinished
-- write.
abbrev pub EachChange : (Names → Option (List ℕ) → Type 0) → Round → Type 0
EachChange P [] = Unit {0}
EachChange P (change ∷ changes) =
    ((is_watched change.0 ≡ false) ⊎ P change.0 change.1) × EachChange P changes

-- Each puts a content of the dataset.
abbrev pub PutsContents : Names → Round → Type 0
PutsContents root round = EachChange (IsContentPut root) round

-- Each sets a log of the dataset, by the contents that stand before the round.
abbrev pub SetsLogs : Names → Ground → Round → Type 0
SetsLogs root g round = EachChange (IsLogSet root g) round

-- A ground on the way of a round has the heads and the contents of the ground before it.
pub record HasContents (g x : Ground) : Type 0 where
  pub heads : SameHeads x g
  pub contents : HoldsContents g x

-- A round keeps a sound ground so, and on its way the heads stay and no content is lost.
pub record KeepsContents (round : Round) (g : Ground) : Type 0 where
  pub keep : KeepsSound round g
  pub has : (x : Ground) → LiesWatched g (changed round g) x → HasContents g x

-- A round in which contents are put does so.
abbrev pub ContentsKeep : Type 0
ContentsKeep =
    (root : Names) (round : Round) (g : Ground) → IsRoot root → PutsContents root round
    → KeepsContents round g

-- So does a round in which logs are set.
abbrev pub LogsKeep : Type 0
LogsKeep =
    (root : Names) (round : Round) (g : Ground) → IsRoot root → SetsLogs root g round
    → KeepsContents round g
