-- Which log a repository keeps of a key, and why it isn't read.
use Rattle.std.specs.Prelude.{◌≡◌, ◌⊎◌, ℕ, Bool, List, [], length, Option, Some, None, Vec, Result}
use Rattle.std.specs.Prelude.{Ok, Err, option_map}
use Rattle.std.specs.declared.alloc.Global.{Global}
use Rattle.places.specs.All.{Names, Ground, file_at}
use Rattle.file_store.specs.All.{Drive}
use Rattle.faults.specs.declared.faults.Fault.{Fault}
use Rattle.faults.specs.declared.faults.Trouble.{Trouble}
use Rattle.faults.specs.declared.faults.Fault.TheVariants.{BadLog, TooLarge}
use Rattle.faults.specs.declared.faults.Trouble.TheVariants.{Refused, Device, NoMemory}
use Rattle.annex_keys.specs.All.{PlainKey}
use Rattle.location_log.specs.All.{IsBadAt, IsLogText, PlainLine}
use Rattle.location_log.specs.declared.lines.LogLine.{LogLine}
use Rattle.acts.specs.All.{Reads}
use Rattle.annex_store.specs.Layout.{log_place}
use Rattle.annex_store.specs.Places.{IsLong, IsOver, long_place, over_fault}

-- The most bytes of a log that is read.
abbrev pub log_limit : ℕ
log_limit = 1048576

-- The lines of a log's file: none where no file stands, and else those of its text.
abbrev pub IsLogIn : Option (List ℕ) → List PlainLine → Type 0
IsLogIn None lines = lines ≡ []
IsLogIn (Some text) lines = IsLogText lines text

-- The file's text has its first bad line here.
abbrev pub IsBadIn : Option (List ℕ) → ℕ → Type 0
IsBadIn None line = ⊥
IsBadIn (Some text) line = IsBadAt text line

-- The refusal of a log's file that is too long to be read.
abbrev pub large_log : Names → Option (List ℕ) → Option Fault
large_log place None = None
large_log place (Some text) = over_fault place log_limit (length text)

-- Why the file at a log's place isn't read, by the file: it is too long, or a line is out of form.
abbrev pub IsFileFault : Names → Option (List ℕ) → Fault → Type 0
IsFileFault place file (BadLog at line) =
    (at ≡ place) × (large_log place file ≡ None) × IsBadIn file line
IsFileFault place file fault = large_log place file ≡ Some fault

-- A log's file isn't too long, and has these lines.
abbrev pub HasLog : Names → Option (List ℕ) → List PlainLine → Type 0
HasLog place file lines = (large_log place file ≡ None) × IsLogIn file lines

-- The log of a key is read, and has these lines.
abbrev pub IsLog : Names → PlainKey → Ground → List PlainLine → Type 0
IsLog repo key g lines =
    (long_place (log_place repo key) ≡ None)
    × HasLog (log_place repo key) (file_at g (log_place repo key)) lines

-- Why the log of a key isn't read: its place is too long, its file, or a line is out of form.
abbrev pub IsLogFault : Names → PlainKey → Ground → Fault → Type 0
IsLogFault repo key g fault =
    (long_place (log_place repo key) ≡ Some fault)
    ⊎ ((long_place (log_place repo key) ≡ None)
    × IsFileFault (log_place repo key) (file_at g (log_place repo key)) fault)

-- The faults with which the file at a log's place may be refused, whatever the files tell.
abbrev pub MayReadFile : Names → Fault → Type 0
MayReadFile place (BadLog at line) = at ≡ place
MayReadFile place (TooLarge path size) = IsOver place log_limit path size
MayReadFile place fault = ⊥

-- The same of a key's log.
abbrev pub MayReadLog : Names → PlainKey → Fault → Type 0
MayReadLog repo key (BadLog at line) = at ≡ log_place repo key
MayReadLog repo key (TooLarge path size) =
    IsLong (log_place repo key) path size ⊎ IsOver (log_place repo key) log_limit path size
MayReadLog repo key fault = ⊥

-- The file at this place is too long for a log.
abbrev pub IsLongLog : Names → Fault → Type 0
IsLongLog place (TooLarge path size) = IsOver place log_limit path size
IsLongLog place fault = ⊥

-- How the reading of a log's text ends.
abbrev pub TextReads : Bool → Names → Drive → Drive → Result (Option (Vec ℕ Global)) Trouble
    → Type 0
TextReads tells place old new result =
    Reads (λ fault. IsLongLog place fault) tells
    (λ g text. (large_log place (file_at g place) ≡ None)
    × (option_map (λ v. v.items) text ≡ file_at g place))
    (λ g fault. large_log place (file_at g place) ≡ Some fault) old new result

-- A text has these lines, or its first bad one is told with the file's place.
abbrev pub IsTaken : Names → List ℕ → Result (Vec LogLine Global) Trouble → Type 0
IsTaken place text (Ok lines) = IsLogText lines.items text
IsTaken place text (Err (Refused (BadLog at line))) = (at ≡ place) × IsBadAt text line
IsTaken place text (Err (Refused fault)) = ⊥
IsTaken place text (Err Device) = ⊥
IsTaken place text (Err NoMemory) = Unit {0}

-- How the reading of the file at a log's place ends.
abbrev pub LogFileReads : Bool → Names → Drive → Drive → Result (Vec LogLine Global) Trouble
    → Type 0
LogFileReads tells place old new result =
    Reads (λ fault. MayReadFile place fault) tells
    (λ g lines. HasLog place (file_at g place) lines.items)
    (λ g fault. IsFileFault place (file_at g place) fault) old new result

-- How the reading of a log ends.
abbrev pub LogReads : Bool → Names → PlainKey → Drive → Drive → Result (Vec LogLine Global) Trouble
    → Type 0
LogReads tells repo key old new result =
    Reads (λ fault. MayReadLog repo key fault) tells (λ g lines. IsLog repo key g lines.items)
    (λ g fault. IsLogFault repo key g fault) old new result
