-- How a content is kept: first its file, and then the log of who has it.
use Rattle.std.specs.Prelude.{◌≡◌, ◌⊎◌, ℕ, Bool, true, IsTrue, if◌then◌else◌, List, [], Option}
use Rattle.std.specs.Prelude.{Some, None, Vec, Result, Ok, Err}
use Rattle.std.specs.declared.alloc.Global.{Global}
use Rattle.places.specs.All.{Names, Ground, file_at}
use Rattle.file_store.specs.All.{Drive, same_file}
use Rattle.faults.specs.declared.faults.Fault.{Fault}
use Rattle.faults.specs.declared.faults.Trouble.{Trouble}
use Rattle.faults.specs.declared.faults.Fault.TheVariants.{BadLog, Blocked, TimeFull, TooLarge}
use Rattle.faults.specs.declared.faults.Trouble.TheVariants.{Refused, Device, NoMemory}
use Rattle.annex_keys.specs.All.{PlainKey, key_text}
use Rattle.location_log.specs.All.{IsNote, IsPresent, IsTimeFull, PlainLine}
use Rattle.location_log.specs.declared.lines.LogLine.{LogLine}
use Rattle.acts.specs.All.{Act, ActsAs, NoFault, Reads, Refuses, Step, bind, gives, still, unless}
use Rattle.annex_store.specs.Layout.{content_place, log_place}
use Rattle.annex_store.specs.Logs.{IsLog, IsLogFault, log_limit}
use Rattle.annex_store.specs.Places.{IsLong, IsOver}
use Rattle.annex_store.specs.Setting.{IsLongRepo, long_repo, puts_one, sets_log}

-- Whether the file at a place has these bytes.
abbrev pub has_bytes : Names → List ℕ → Ground → Bool
has_bytes place bytes g = same_file (file_at g place) (Some bytes)

-- A file is put, or it is left as it is.
abbrev pub puts_unless : Bool → Names → Names → List ℕ → Step (Unit {0})
puts_unless there repo place bytes = if there then gives tt else puts_one repo place bytes

-- A set content: nothing where it is refused, or where its file has the bytes, which it gets else.
unfoldable pub sets_content : Names → PlainKey → List ℕ → Step (Unit {0})
sets_content repo key bytes =
    bind (unless (λ g. long_repo repo))
    (λ _ g. puts_unless (has_bytes (content_place repo key) bytes g) repo (content_place repo key)
    bytes g)

-- A log is set to other lines, or it is left as it is.
abbrev pub sets_note : Names → PlainKey → Option (List PlainLine) → Step (Unit {0})
sets_note repo key None = gives tt
sets_note repo key (Some lines) = sets_log repo key lines

-- A content that is kept: its file, and then the log.
unfoldable pub keeps : Names → PlainKey → List ℕ → Option (List PlainLine) → Step (Unit {0})
keeps repo key bytes note = bind (sets_content repo key bytes) (λ _. sets_note repo key note)

-- The lines by which a log says that a repository has a content: none in place of the old ones
-- where these do, and else theirs with a note at this moment.
abbrev pub IsNotedHere : List PlainLine → List ℕ → ℕ → Option (List PlainLine) → Type 0
IsNotedHere lines uuid moment None = IsPresent lines uuid
IsNotedHere lines uuid moment (Some out) =
    (IsPresent lines uuid → ⊥) × IsNote lines uuid true moment out

-- A note is wanted, and no second is later than that of the line that counts.
abbrev pub IsFull : List PlainLine → List ℕ → Type 0
IsFull lines uuid = (IsPresent lines uuid → ⊥) × IsTimeFull lines uuid

-- The lines of a note that was made, if one was.
abbrev pub lines_of : Option (Vec LogLine Global) → Option (List PlainLine)
lines_of None = None
lines_of (Some lines) = Some lines.items

-- How the making of a note ends.
abbrev pub NoteEnds : PlainKey → List PlainLine → List ℕ → ℕ
    → Result (Option (Vec LogLine Global)) Trouble → Type 0
NoteEnds key lines uuid moment (Ok note) = IsNotedHere lines uuid moment (lines_of note)
NoteEnds key lines uuid moment (Err (Refused (TimeFull text))) =
    (text ≡ key_text key) × IsFull lines uuid
NoteEnds key lines uuid moment (Err (Refused fault)) = ⊥
NoteEnds key lines uuid moment (Err Device) = ⊥
NoteEnds key lines uuid moment (Err NoMemory) = Unit {0}

-- The refusal of a log in which nothing later can be noted.
abbrev pub IsFullFault : Names → List ℕ → PlainKey → Ground → Fault → Type 0
IsFullFault repo uuid key g (TimeFull text) =
    (lines : List PlainLine) × IsLog repo key g lines × (text ≡ key_text key) × IsFull lines uuid
IsFullFault repo uuid key g fault = ⊥

-- Why a content isn't kept, by the ground: its log isn't read, or nothing later can be noted there.
abbrev pub IsKeepFault : Names → List ℕ → PlainKey → Ground → Fault → Type 0
IsKeepFault repo uuid key g fault =
    IsLogFault repo key g fault ⊎ IsFullFault repo uuid key g fault

-- What is to be noted in a key's log.
abbrev pub IsToNote : Names → List ℕ → PlainKey → ℕ → Ground → Option (List PlainLine) → Type 0
IsToNote repo uuid key moment g note =
    (lines : List PlainLine) × IsLog repo key g lines × IsNotedHere lines uuid moment note

-- The act of a keeping: a refusal by the log, before any write, or the content and the note.
abbrev pub IsKeep : Names → List ℕ → PlainKey → List ℕ → ℕ → Ground → Act (Unit {0}) → Type 0
IsKeep repo uuid key bytes moment g act =
    ((fault : Fault) × IsKeepFault repo uuid key g fault × (act ≡ still (Refuses fault)))
    ⊎ ((note : Option (List PlainLine)) × IsToNote repo uuid key moment g note
    × (act ≡ keeps repo key bytes note g))

-- The faults that a keeping may hand on, whatever the files tell: of the log, of the repository's
-- place, or a file that is told to be in the way.
abbrev pub MayKeep : Bool → Names → PlainKey → Fault → Type 0
MayKeep tells repo key (BadLog at line) = at ≡ log_place repo key
MayKeep tells repo key (TimeFull text) = text ≡ key_text key
MayKeep tells repo key (TooLarge path size) =
    IsLong (log_place repo key) path size
    ⊎ (IsOver (log_place repo key) log_limit path size ⊎ IsLongRepo repo path size)
MayKeep tells repo key (Blocked at) = IsTrue tells
MayKeep tells repo key fault = ⊥

-- How a look ends whether a file has some bytes.
abbrev pub BytesRead : Bool → Names → List ℕ → Drive → Drive → Result Bool Trouble → Type 0
BytesRead tells place bytes old new result =
    Reads (λ fault. NoFault fault) tells (λ g there. there ≡ has_bytes place bytes g) (λ g fault. ⊥)
    old new result

-- How a keeping ends.
abbrev pub KeepEnds : Bool → Names → List ℕ → PlainKey → List ℕ → ℕ → Drive → Drive
    → Result (Unit {0}) Trouble → Type 0
KeepEnds tells repo uuid key bytes moment old new result =
    ActsAs (λ fault. MayKeep tells repo key fault) tells
    (λ g act. IsKeep repo uuid key bytes moment g act) [] [] old new result
