-- The two parts of a round in which a list of files is replaced: the writes to the temporary
-- places, and the moves from there.
use Rattle.std.specs.Prelude.{◌≡◌, ℕ, Bool, true, IsTrue, List, [], ◌∷◌, map, slice_get, Some}
use Rattle.std.specs.Prelude.{None, Result, Ok, Err}
use Rattle.places.specs.All.{file_at}
use Rattle.file_store.specs.Disk.{Drive, at_rest}
use Rattle.file_store.specs.Ends.{present}
use Rattle.file_store.specs.Course.{GoesAlong}
use Rattle.file_store.specs.Replaced.{staged, installed, stage_block, move_block, first_shut}
use Rattle.file_store.specs.Replaced.{AreApart, IsNoTmp, ReplaceEnds, replacing, round_of}
use Rattle.file_store.specs.declared.errors.FileErr.{FileErr}
use Rattle.file_store.specs.declared.errors.FileErr.TheVariants.{Failed, Blocked, NoMemory}
use Rattle.file_store.specs.declared.replacing.Move.{Move}
use Rattle.file_store.specs.declared.replacing.Replacement.{Replacement}

-- All of them are written; or the first temporary place that is shut is named, and where that is
-- the first of all nothing has changed; or the device failed; or memory was wanting.
abbrev pub StageEnds : Bool → List Replacement → Drive → Drive → Result (Unit {0}) FileErr → Type 0
StageEnds tells list old new (Ok _) =
    IsTrue tells → (present new ≡ staged list (present old))
    × (stage_block list (present old) ≡ None)
StageEnds tells list old new (Err Failed) = Unit {0}
StageEnds tells list old new (Err (Blocked at)) =
    IsTrue tells × (stage_block list (present old) ≡ Some at)
    × (first_shut list (present old) ≡ true → new.history ≡ old.history)
StageEnds tells list old new (Err NoMemory) = Unit {0}

-- Each file stands at its temporary place, and all that stands is safe.
pub record AreReady (list : List Replacement) (drive : Drive) : Type 0 where
  pub safe : drive.history.latest ≡ at_rest (present drive)
  pub files : (i : ℕ) (r : Replacement) → slice_get list i ≡ Some r
      → file_at (present drive) r.tmp ≡ Some r.bytes

-- All of them are moved; or the first place that is shut is named; or the device failed; or memory
-- was wanting.
abbrev pub MoveEnds : Bool → List Replacement → Drive → Drive → Result (Unit {0}) FileErr → Type 0
MoveEnds tells list old new (Ok _) =
    IsTrue tells → (present new ≡ installed list (present old))
    × (move_block list (present old) ≡ None)
MoveEnds tells list old new (Err Failed) = Unit {0}
MoveEnds tells list old new (Err (Blocked at)) =
    IsTrue tells × (move_block list (present old) ≡ Some at)
MoveEnds tells list old new (Err NoMemory) = Unit {0}

-- The files of a list were staged since a drive: they stand at their temporary places, none of
-- which was shut, and at each moment nothing else has changed; of an empty list nothing at all.
pub record AreStaged (list : List Replacement) (old new : Drive) : Type 0 where
  pub written : present new ≡ staged list (present old)
  pub free : stage_block list (present old) ≡ None
  pub moments : GoesAlong (IsNoTmp list) (λ g. []) old new
  pub untouched : list ≡ [] → new.history ≡ old.history

-- The staging of a list: all is staged, or it ends as the replacement of the list.
abbrev pub StagesEnd : Bool → List Replacement → Drive → Drive → Result (Unit {0}) FileErr → Type 0
StagesEnd tells list old new (Ok _) = IsTrue tells → AreStaged list old new
StagesEnd tells list old new (Err e) = ReplaceEnds tells list old new (Err e)

-- The moves of the files of a list, from their temporary places to their places.
abbrev pub moves_of : List Replacement → List Move
moves_of list = map (λ r. record { tmp = r.tmp; place = r.place }) list

-- These are the moves of a list of files that are apart.
pub record AreMovesOf (moves : List Move) (list : List Replacement) : Type 0 where
  pub same : moves ≡ moves_of list
  pub apart : AreApart list

-- The moves of files that are ready end with all of them, as `MoveEnds` says.
abbrev pub RenamesEnd : Bool → List Move → Drive → Drive → Result (Unit {0}) FileErr → Type 0
RenamesEnd tells moves old new result =
    (list : List Replacement) → AreMovesOf moves list → (IsTrue tells → AreReady list old)
    → MoveEnds tells list old new result

-- And they go along one round.
abbrev pub RenamesGo : List Move → Drive → Drive → Type 0
RenamesGo moves old new =
    (list : List Replacement) → AreMovesOf moves list → AreReady list old
    → GoesAlong (IsNoTmp list) (λ g. round_of list ∷ []) old new

-- The moves of files that were staged since a drive end as the replacement of all of them does,
-- from that drive on.
abbrev pub MovesEnd : Bool → List Move → Drive → Drive → Result (Unit {0}) FileErr → Type 0
MovesEnd tells moves old new result =
    (list : List Replacement) (start : Drive) → AreMovesOf moves list
    → (IsTrue tells → AreStaged list start old) → ReplaceEnds tells list start new result

-- And they go along as it does.
abbrev pub MovesGo : List Move → Drive → Drive → Type 0
MovesGo moves old new =
    (list : List Replacement) (start : Drive) → AreMovesOf moves list → AreStaged list start old
    → GoesAlong (IsNoTmp list) (replacing list) start new
