-- What a log says: a line per commit, along first parents.
use Rattle.std.specs.Prelude.{◌≡◌, ◌⊎◌, ℕ, ◌<◌, ◌≤◌, ◌==◌, if◌then◌else◌, List, [], ◌∷◌, ◌++◌}
use Rattle.std.specs.Prelude.{length, Some, None, Result, Ok, Err}
use Rattle.std.specs.List.{flat_map}
use Rattle.places.specs.All.{Names, Ground}
use Rattle.faults.specs.declared.faults.Fault.{Fault}
use Rattle.faults.specs.declared.faults.Fault.TheVariants.{TooLong}
use Rattle.git_objects.specs.All.{hex_of}
use Rattle.object_store.specs.All.{IsCommitFault, MayReadCommit}
use Rattle.ref_store.specs.All.{AreHeld, GoAlong, HaveOwnIds, IsTooFar, MayResolve, Passed}
use Rattle.ref_store.specs.All.{Resolves, Unresolves, walk_limit}

-- The first line of a message, without its newline.
abbrev pub title_of : List ℕ → List ℕ
title_of [] = []
title_of (b ∷ rest) = if b == 10 then [] else b ∷ title_of rest

-- The line of a commit: the digits of its id, a blank, its title and a newline.
abbrev pub commit_line : Passed → List ℕ
commit_line c = hex_of c.id ++ 32 ∷ (title_of c.fields.message ++ 10 ∷ [])

-- The lines of some commits.
abbrev pub log_text : List Passed → List ℕ
log_text way = flat_map commit_line way

-- The log from a commit on: its line and those of all its first parents, down to the one that has
-- none.
pub record IsLogFrom (repo : Names) (start : List ℕ) (g : Ground) (text : List ℕ) : Type 0 where
  pub way : List Passed
  pub along : GoAlong (Some start) way None
  pub few : length way ≤ walk_limit
  pub held : AreHeld repo g way
  pub is : text ≡ log_text way

-- The log of a revision word: that from the commit on to which it leads.
pub record IsLog (repo : Names) (word : List ℕ) (g : Ground) (text : List ℕ) : Type 0 where
  pub start : List ℕ
  pub resolved : Resolves repo word g start
  pub from : IsLogFrom repo start g text

-- Why there is no log from a commit on: one on the way can't be read; or there are too many.
pub data IsNoLogFrom (repo : Names) (start : List ℕ) (g : Ground) : Fault → Type 0 where
  unread : (way : List Passed) (next : List ℕ) (fault : Fault)
      → GoAlong (Some start) way (Some next) → length way < walk_limit → AreHeld repo g way
      → IsCommitFault repo next g fault → IsNoLogFrom repo start g fault
  too_long : (way : List Passed) (next : List ℕ) → GoAlong (Some start) way (Some next)
      → length way ≡ walk_limit → AreHeld repo g way → IsNoLogFrom repo start g (TooLong start)

-- Why there is no log of a revision word: it leads to no commit, or there is none from that on.
pub data IsNoLog (repo : Names) (word : List ℕ) (g : Ground) : Fault → Type 0 where
  unresolved : (fault : Fault) → Unresolves repo word g fault → IsNoLog repo word g fault
  unlogged : (start : List ℕ) (fault : Fault) → Resolves repo word g start
      → IsNoLogFrom repo start g fault → IsNoLog repo word g fault

-- What any log is, whatever the files tell: the lines of commits with the ids of their bodies, each
-- the first parent of the one before, down to one that has none.
pub record IsLogText (text : List ℕ) : Type 0 where
  pub start : List ℕ
  pub way : List Passed
  pub along : GoAlong (Some start) way None
  pub few : length way ≤ walk_limit
  pub own : HaveOwnIds way
  pub is : text ≡ log_text way

-- From this commit on there are more commits than a log may have, wherever they may be held.
pub record IsPastLimit (start : List ℕ) : Type 0 where
  pub way : List Passed
  pub next : List ℕ
  pub along : GoAlong (Some start) way (Some next)
  pub counted : length way ≡ walk_limit
  pub own : HaveOwnIds way

-- The faults with which the log from a commit on may be refused, whatever the files tell.
abbrev pub MayLogFrom : Names → List ℕ → Fault → Type 0
MayLogFrom repo start (TooLong commit) = (commit ≡ start) × IsPastLimit start
MayLogFrom repo start fault = (id : List ℕ) × MayReadCommit repo id fault

-- The same of the log of a revision word.
abbrev pub MayLog : Names → List ℕ → Fault → Type 0
MayLog repo word (TooLong commit) = IsTooFar word ⊎ IsPastLimit commit
MayLog repo word fault = MayResolve repo word fault

-- How a log ends on a ground: with its text, or refused.
abbrev pub LogEnds : Names → List ℕ → Ground → Result (List ℕ) Fault → Type 0
LogEnds repo word g (Ok text) = IsLog repo word g text
LogEnds repo word g (Err fault) = IsNoLog repo word g fault

-- A log ends in one way.
abbrev pub LogIsOne : Type 0
LogIsOne =
    (repo : Names) (word : List ℕ) (g : Ground) (one two : Result (List ℕ) Fault)
    → LogEnds repo word g one → LogEnds repo word g two → one ≡ two
