-- How the note of one content is made.
use Rattle.std.specs.Prelude.{◌≡◌, ℕ, Bool, List, Option, Vec, Result}
use Rattle.std.specs.declared.alloc.Global.{Global}
use Rattle.places.specs.All.{Names}
use Rattle.file_store.specs.All.{Drive}
use Rattle.faults.specs.declared.faults.Fault.{Fault}
use Rattle.faults.specs.declared.faults.Fault.TheVariants.{TimeFull}
use Rattle.faults.specs.declared.faults.Trouble.{Trouble}
use Rattle.annex_keys.specs.All.{PlainKey, key_text}
use Rattle.location_log.specs.declared.lines.LogLine.{LogLine}
use Rattle.acts.specs.All.{Reads}
use Rattle.annex_store.specs.Keeping.{IsKeepFault, IsToNote, lines_of}
use Rattle.annex_store.specs.Logs.{MayReadLog}

-- The faults of a note, whatever the files tell: of the log.
abbrev pub MayNote : Names → PlainKey → Fault → Type 0
MayNote repo key (TimeFull text) = text ≡ key_text key
MayNote repo key fault = MayReadLog repo key fault

-- How the making of a note ends.
abbrev pub NoteReads : Bool → Names → List ℕ → PlainKey → ℕ → Drive → Drive
    → Result (Option (Vec LogLine Global)) Trouble → Type 0
NoteReads tells repo uuid key moment old new result =
    Reads (λ fault. MayNote repo key fault) tells
    (λ g note. IsToNote repo uuid key moment g (lines_of note))
    (λ g fault. IsKeepFault repo uuid key g fault) old new result
