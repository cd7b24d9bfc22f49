-- How the texts of a call are printed.
use Rattle.std.specs.Prelude.{◌≡◌, ◌⊎◌, ℕ, ◌≤◌, Bool, true, false, IsTrue, List, [], ◌++◌, length}
use Rattle.std.specs.Prelude.{take, Result, Ok, Err}
use Rattle.file_store.specs.All.{Rose, Tape}
use Rattle.faults.specs.All.{fault_text}
use Rattle.faults.specs.declared.lines.Line.{Line}
use Rattle.faults.specs.declared.faults.Fault.{Fault}
use Rattle.faults.specs.declared.faults.Trouble.{Trouble}
use Rattle.faults.specs.declared.faults.Trouble.TheVariants.{Refused as RefusedBy}
use Rattle.faults.specs.declared.faults.Trouble.TheVariants.{Device as ByDevice}
use Rattle.faults.specs.declared.faults.Trouble.TheVariants.{NoMemory as ByMemory}
use Rattle.datalad_cli.specs.Answer.{lines_text, usage_text, device_text, memory_text}
use Rattle.datalad_cli.specs.declared.status.Status.{Status}
use Rattle.datalad_cli.specs.declared.status.Status.TheVariants.{Done, Refused, Usage, NoMemory}
use Rattle.datalad_cli.specs.declared.status.Status.TheVariants.{Device, CommandFailed}

-- What the two outputs tell at one moment.
pub record Tapes : Type 0 where
  pub out : Tape
  pub err : Tape

-- Which of them tell.
pub record Heard : Type 0 where
  pub out : Bool
  pub err : Bool

-- The two outputs have these texts after what they had.
pub record Says (heard : Heard) (out err : List ℕ) (old new : Tapes) : Type 0 where
  pub out_has : IsTrue heard.out → new.out.bytes ≡ old.out.bytes ++ out
  pub err_has : IsTrue heard.err → new.err.bytes ≡ old.err.bytes ++ err

-- An output took a first part of a text.
abbrev pub TookPart : Tape → Tape → List ℕ → Type 0
TookPart old new text = (n : ℕ) × (n ≤ length text) × (new.bytes ≡ old.bytes ++ take n text)

-- An output failed, or found no memory.
abbrev pub WasHindered : Tape → Tape → Type 0
WasHindered old new = Rose old.faults new.faults ⊎ Rose old.wants new.wants

-- An output neither failed nor found no memory.
pub record WasUnhindered (old new : Tape) : Type 0 where
  pub faults : new.faults ≡ old.faults
  pub wants : new.wants ≡ old.wants

-- A count stands or rose.
abbrev pub StandsOrRose : ℕ → ℕ → Type 0
StandsOrRose before after = (after ≡ before) ⊎ Rose before after

-- Each count of an output stands or rose.
pub record HasCounted (old new : Tape) : Type 0 where
  pub faults : StandsOrRose old.faults new.faults
  pub wants : StandsOrRose old.wants new.wants

-- The counts of an output by the status: neither rose, unless the status is for a failure. What
-- comes of the text of a failure changes the status no more.
abbrev pub OutputCounts : Status → Tape → Tape → Type 0
OutputCounts Done old new = WasUnhindered old new
OutputCounts (Refused fault) old new = WasUnhindered old new
OutputCounts (Usage at) old new = WasUnhindered old new
OutputCounts (CommandFailed got) old new = WasUnhindered old new
OutputCounts Device old new = HasCounted old new
OutputCounts NoMemory old new = HasCounted old new

-- An output took a text whole; or it failed or found no memory, and took a first part.
abbrev pub TookText : Tape → Tape → List ℕ → Type 0
TookText old new text =
    (new.bytes ≡ old.bytes ++ text) ⊎ (WasHindered old new × TookPart old new text)

-- A failure: its text; which count of an output rises where it cuts off what is printed; and
-- whether the lines of what is done are printed all the same.
pub record Failure : Type 0 where
  pub text : List ℕ
  pub count : Tape → ℕ
  pub prints_lines : Bool

-- A device failed: the lines are printed all the same.
abbrev pub of_device : Failure
of_device = record { text = device_text; count = λ tape. tape.faults; prints_lines = true }

-- Memory was wanting: it may be wanting for the lines too.
abbrev pub of_memory : Failure
of_memory = record { text = memory_text; count = λ tape. tape.wants; prints_lines = false }

-- A failure of the output itself cut off the text that was printed.
abbrev pub WasCutShort : Failure → Tape → Tape → List ℕ → Type 0
WasCutShort failure old new text =
    Rose (failure.count old) (failure.count new) × TookPart old new text

-- The first output has a first part of its text, and the whole of it where the failure prints the
-- lines and the output didn't fail; the second one has the failure's text, whole where neither of
-- its counts rose, or the failure was its own and cut off the command's text.
pub record SaysPart (heard : Heard) (out err : List ℕ) (failure : Failure) (old new : Tapes)
    : Type 0 where
  pub out_part : IsTrue heard.out → TookPart old.out new.out out
  pub out_whole : IsTrue failure.prints_lines → IsTrue heard.out →
      Rose old.out.faults new.out.faults ⊎ (new.out.bytes ≡ old.out.bytes ++ out)
  pub err_part : IsTrue heard.err →
      WasCutShort failure old.err new.err err ⊎ TookText old.err new.err failure.text

-- The second text of a command that ended so.
abbrev pub outcome_text : Result (List ℕ) Trouble → List ℕ
outcome_text (Ok text) = []
outcome_text (Err (RefusedBy fault)) = fault_text fault
outcome_text (Err ByDevice) = []
outcome_text (Err ByMemory) = []

-- The text that an outcome gives to the first output, after the lines.
abbrev pub outcome_gives : Result (List ℕ) Trouble → List ℕ
outcome_gives (Ok text) = text
outcome_gives (Err trouble) = []

-- The first text of a command: its lines, and then what it gives.
abbrev pub printed : List Line → Result (List ℕ) Trouble → List ℕ
printed lines outcome = lines_text lines ++ outcome_gives outcome

-- A count of faults of an output rose.
abbrev pub SomeRose : Tapes → Tapes → Type 0
SomeRose old new = Rose old.out.faults new.out.faults ⊎ Rose old.err.faults new.err.faults

-- The status is the outcome's, with this first text and its own second one; or a device failed or
-- memory was wanting, with first parts of them and the text of that failure.
abbrev pub TextEnds : Heard → List ℕ → Result (List ℕ) Trouble → Tapes → Tapes → Status → Type 0
TextEnds heard out outcome old new Done =
    (text : List ℕ) × (outcome ≡ Ok text) × Says heard out [] old new
TextEnds heard out outcome old new (Refused fault) =
    (outcome ≡ Err (RefusedBy fault)) × Says heard out (fault_text fault) old new
TextEnds heard out outcome old new Device =
    ((outcome ≡ Err ByDevice) ⊎ SomeRose old new)
    × SaysPart heard out (outcome_text outcome) of_device old new
TextEnds heard out outcome old new NoMemory =
    SaysPart heard out (outcome_text outcome) of_memory old new
TextEnds heard out outcome old new (Usage at) = ⊥
TextEnds heard out outcome old new (CommandFailed got) = ⊥

-- The same of a command's lines and its outcome.
abbrev pub ReportEnds : Heard → List Line → Result (List ℕ) Trouble → Tapes → Tapes → Status
    → Type 0
ReportEnds heard lines outcome old new status =
    TextEnds heard (printed lines outcome) outcome old new status

-- A refused command's text on the second output; where no memory was found for it, the text of
-- that failure.
abbrev pub RefusalEnds : Bool → Fault → Tape → Tape → Status → Type 0
RefusalEnds heard fault old new (Refused f) =
    (f ≡ fault) × (IsTrue heard → new.bytes ≡ old.bytes ++ fault_text fault)
RefusalEnds heard fault old new Device =
    Rose old.faults new.faults × (IsTrue heard → TookPart old new (fault_text fault))
RefusalEnds heard fault old new NoMemory =
    IsTrue heard → WasCutShort of_memory old new (fault_text fault) ⊎ TookText old new memory_text
RefusalEnds heard fault old new Done = ⊥
RefusalEnds heard fault old new (Usage at) = ⊥
RefusalEnds heard fault old new (CommandFailed got) = ⊥

-- Words without a reading: their text on the second output; where no memory was found for it, the
-- text of that failure.
abbrev pub UsageEnds : Bool → ℕ → Tape → Tape → Status → Type 0
UsageEnds heard at old new (Usage n) =
    (n ≡ at) × (IsTrue heard → new.bytes ≡ old.bytes ++ usage_text at)
UsageEnds heard at old new Device =
    Rose old.faults new.faults × (IsTrue heard → TookPart old new (usage_text at))
UsageEnds heard at old new NoMemory =
    IsTrue heard → WasCutShort of_memory old new (usage_text at) ⊎ TookText old new memory_text
UsageEnds heard at old new Done = ⊥
UsageEnds heard at old new (Refused fault) = ⊥
UsageEnds heard at old new (CommandFailed got) = ⊥
