-- How a call of the program ends, by the reading of its words.
use Rattle.std.specs.Prelude.{◌≡◌, ◌⊎◌, ℕ, Bool, IsTrue, List, [], ◌++◌}
use Rattle.file_store.specs.All.{Rose, Drive, Since, IsImage, LiesAlong, WasOpen, finally, Tape}
use Rattle.file_store.specs.All.{present}
use Rattle.places.specs.All.{Ground}
use Rattle.faults.specs.All.{fault_text}
use Rattle.acts.specs.All.{Act, Event, Ending, Gives, Refuses, Breaks, rounds_of, lines_of}
use Rattle.acts.specs.All.{lines_in, last_of, IsFirm, Reaches, EndsRefused, Moments, Nothing}
use Rattle.dataset.specs.All.{Sound, IsSettled, StaysSound}
use Rattle.datalad_cli.specs.Answer.{lines_text}
use Rattle.datalad_cli.specs.Commands.{Command, IsActOf, HasOneAct, Leaves, CanKeep, IsSoundFault}
use Rattle.datalad_cli.specs.Commands.{Reading, Misread, Asks}
use Rattle.datalad_cli.specs.Reports.{Failure, Heard, Tapes, Says, SaysPart, SomeRose, UsageEnds}
use Rattle.datalad_cli.specs.Reports.{OutputCounts, WasUnhindered, of_device, of_memory}
use Rattle.datalad_cli.specs.declared.status.Status.{Status}
use Rattle.datalad_cli.specs.declared.status.Status.TheVariants.{Done, Refused, Usage, NoMemory}
use Rattle.datalad_cli.specs.declared.status.Status.TheVariants.{Device, CommandFailed}

-- What the files and the two outputs tell at one moment.
pub record World : Type 0 where
  pub drive : Drive
  pub tapes : Tapes

-- Which of them tell.
pub record Telling : Type 0 where
  pub files : Bool
  pub heard : Heard

-- What they tell, of files and two outputs.
abbrev pub world_of : Drive → Tape → Tape → World
world_of drive out err = record { drive = drive; tapes = record { out = out; err = err } }

-- Which of them tell, of files and two outputs.
abbrev pub telling_of : Bool → Bool → Bool → Telling
telling_of files out err = record { files = files; heard = record { out = out; err = err } }

-- The text of an ending on the second output.
abbrev pub ending_text : Ending (List ℕ) → List ℕ
ending_text (Gives text) = []
ending_text (Refuses fault) = fault_text fault
ending_text (Breaks fault) = fault_text fault

-- The text that an ending gives to the first output, after the lines.
abbrev pub given_text : Ending (List ℕ) → List ℕ
given_text (Gives text) = text
given_text (Refuses fault) = []
given_text (Breaks fault) = []

-- A command that a failure cut off: some first events are done; the first output has a first part
-- of their lines, and of the text that the act gives where all events are done, and the second one
-- the text of the failure, or a first part of the act's own text if it failed itself; and what
-- stands lies along the rounds of the rest. So a line that was told goes with what stands.
pub record WasCutOff (heard : Heard) (act : Act (List ℕ)) (failure : Failure) (old new : World)
    : Type 0 where
  pub done : List Event
  pub rest : List Event
  pub splits : act.events ≡ done ++ rest
  pub text : List ℕ
  pub given : (text ≡ []) ⊎ ((rest ≡ []) × (text ≡ given_text act.ending))
  pub lies : LiesAlong (IsFirm act.loose) old.drive.history.latest
      (finally (rounds_of done) (present old.drive)) (rounds_of rest) new.drive.history.latest
  pub says : SaysPart heard (lines_text (lines_of done) ++ text)
      (ending_text act.ending) failure old.tapes new.tapes

-- The status and the texts are the act's, and after Done and a refusal before a round its last
-- ground stands; or the command was cut off.
abbrev pub StatusEnds : Heard → Act (List ℕ) → World → World → Status → Type 0
StatusEnds heard act old new Done =
    (text : List ℕ) × (act.ending ≡ Gives text) × Reaches act old.drive new.drive
    × Says heard (lines_text (lines_in act) ++ text) [] old.tapes new.tapes
StatusEnds heard act old new (Refused fault) =
    EndsRefused act.ending fault (Reaches act old.drive new.drive)
    × Says heard (lines_text (lines_in act)) (fault_text fault) old.tapes new.tapes
StatusEnds heard act old new Device = WasCutOff heard act of_device old new
StatusEnds heard act old new NoMemory = WasCutOff heard act of_memory old new
StatusEnds heard act old new (Usage at) = ⊥
StatusEnds heard act old new (CommandFailed got) = ⊥

-- A command was halted before it did or said anything.
abbrev pub EndsHalted : Heard → World → World → Status → Type 0
EndsHalted heard old new Device =
    (new.drive.history ≡ old.drive.history) × SaysPart heard [] [] of_device old.tapes new.tapes
EndsHalted heard old new NoMemory =
    (new.drive.history ≡ old.drive.history) × SaysPart heard [] [] of_memory old.tapes new.tapes
EndsHalted heard old new Done = ⊥
EndsHalted heard old new (Refused fault) = ⊥
EndsHalted heard old new (Usage at) = ⊥
EndsHalted heard old new (CommandFailed got) = ⊥

-- No device failed, and no output found no memory.
pub record NoneFailed (old new : World) : Type 0 where
  pub files : new.drive.faults ≡ old.drive.faults
  pub out : WasUnhindered old.tapes.out new.tapes.out
  pub err : WasUnhindered old.tapes.err new.tapes.err

-- The cause of a command's status, whatever the files tell: for Device, a count of faults rose; for
-- Done and a refusal, none did.
abbrev pub StatusCause : World → World → Status → Type 0
StatusCause old new Done = NoneFailed old new
StatusCause old new (Refused fault) = NoneFailed old new
StatusCause old new Device =
    Rose old.drive.faults new.drive.faults ⊎ SomeRose old.tapes new.tapes
StatusCause old new NoMemory = Unit {0}
StatusCause old new (Usage at) = ⊥
StatusCause old new (CommandFailed got) = ⊥

-- At every moment of a command since its start, by an act of it: the disk lies along the act's
-- rounds; and what stands then, and each ground that a crash may leave, is what the command leaves.
pub record AtEachMoment (command : Command) (act : Act (List ℕ)) (old new : Drive) : Type 0 where
  pub along : Moments act old new
  pub stands : Since (λ d. Leaves command (last_of act (present old)) Nothing (present old) d.now)
      old.history new.history
  pub images : Since (λ d. (x : Ground) → IsImage d x → Leaves command (last_of act (present old))
      (WasOpen old.history.latest) (present old) x) old.history new.history

-- From a sound ground and a settled disk, at every moment what stands and what a crash leaves is
-- sound, has the heads of one of the act's grounds, and has lost no object and no content that
-- matched its key; and when the act is done the ground is sound and the disk settled again.
abbrev pub KeepsSound : Command → Act (List ℕ) → Drive → Drive → Type 0
KeepsSound command act old new =
    CanKeep command → Sound (present old) → IsSettled old.history.latest → StaysSound act old new

-- From a sound ground a command is refused for nothing that the program itself has left there.
abbrev pub RefusesSoundly : Command → Ground → Status → Type 0
RefusesSoundly command g Done = Unit {0}
RefusesSoundly command g (Refused fault) = Sound g → IsSoundFault command g fault
RefusesSoundly command g Device = Unit {0}
RefusesSoundly command g NoMemory = Unit {0}
RefusesSoundly command g (Usage at) = ⊥
RefusesSoundly command g (CommandFailed got) = ⊥

-- A command went as one of its acts: it ends as the act does, and it goes so at every moment.
pub record WentAs (heard : Heard) (command : Command) (act : Act (List ℕ)) (old new : World)
    (status : Status)
    : Type 0 where
  pub own : IsActOf command (present old.drive) act
  pub ends : StatusEnds heard act old new status
  pub moments : AtEachMoment command act old.drive new.drive
  pub sound : KeepsSound command act old.drive new.drive
  pub complete : RefusesSoundly command (present old.drive) status

-- A command went as one of its acts, the only one that it has on the ground at its start; or it was
-- halted before it did or said anything.
pub record CommandEnds (telling : Telling) (command : Command) (old new : World) (status : Status)
    : Type 0 where
  pub cause : StatusCause old new status
  pub told : IsTrue telling.files → EndsHalted telling.heard old new status
      ⊎ ((act : Act (List ℕ)) × WentAs telling.heard command act old new status)
  pub one : HasOneAct command (present old.drive)

-- Words without a reading touch the second output alone; a command ends as its act does.
abbrev pub ReadingEnds : Telling → Reading → World → World → Status → Type 0
ReadingEnds telling (Misread at) old new status =
    (new.drive ≡ old.drive) × (new.tapes.out ≡ old.tapes.out)
    × OutputCounts status old.tapes.err new.tapes.err
    × UsageEnds telling.heard.err at old.tapes.err new.tapes.err status
ReadingEnds telling (Asks command) old new status =
    CommandEnds telling command old new status
