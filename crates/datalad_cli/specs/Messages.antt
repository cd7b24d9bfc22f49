-- The message of a commit: where it comes from, and what it is on a ground.
use Rattle.std.specs.Prelude.{◌≡◌, ◌<◌, ℕ, List, length, nat_lt, Option, Some, None}
use Rattle.std.specs.Prelude.{Result, Ok, Err, if◌then◌else◌}
use Rattle.places.specs.All.{Names, Ground, file_at, text_of}
use Rattle.faults.specs.declared.faults.Fault.{Fault}
use Rattle.faults.specs.declared.faults.Fault.TheVariants.{BadPath, PathUnknown, TooLarge}
use Rattle.dl_words.specs.declared.words.Word.{Word}
use Rattle.datalad_cli.specs.Words.{message_by, message_of, place_by}

-- How many bytes the file of a message may have.
abbrev pub message_limit : ℕ
message_limit = 1048576

-- Where a message comes from: it is told by the words, or none is given and it is the usual one; or
-- it is in a file, by where the word leads that names it, and that word's index.
pub data Source : Type 0 where
  Told : List ℕ → Source
  InFile : Option Names → ℕ → Source

-- The source by the working directory, the word that may give the message and the word that may
-- name its file. No words give both.
abbrev pub source_by : Names → Option Word → Option Word → Source
source_by cwd word None = Told (message_by word)
source_by cwd word (Some file) = InFile (place_by cwd file.text) file.index

-- The message in the file of a place, by the bytes of the file that may stand there.
abbrev pub message_at : Names → Option (List ℕ) → Result (List ℕ) Fault
message_at place None = Err (PathUnknown (text_of place))
message_at place (Some bytes) =
    if nat_lt message_limit (length bytes) then Err (TooLarge (text_of place) (length bytes))
    else Ok (message_of bytes)

-- The message of a source on a ground, or why there is none.
abbrev pub message_in : Source → Ground → Result (List ℕ) Fault
message_in (Told message) g = Ok message
message_in (InFile None index) g = Err (BadPath index)
message_in (InFile (Some place) index) g = message_at place (file_at g place)

-- The faults of the file at a place, whatever the files tell: none stands there, or it has more
-- bytes than a message's file may have.
abbrev pub MayLackAt : Names → Fault → Type 0
MayLackAt place (PathUnknown path) = path ≡ text_of place
MayLackAt place (TooLarge path size) = (path ≡ text_of place) × (message_limit < size)
MayLackAt place fault = ⊥

-- The faults of a message's source, whatever the files tell.
abbrev pub MayLack : Source → Fault → Type 0
MayLack (Told message) fault = ⊥
MayLack (InFile None index) fault = fault ≡ BadPath index
MayLack (InFile (Some place) index) fault = MayLackAt place fault
