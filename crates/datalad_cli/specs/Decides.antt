-- What the words of a call alone decide, whatever the files tell.
use Rattle.std.specs.Prelude.{ℕ, Bool, List, Result, Ok, Err}
use Rattle.faults.specs.declared.lines.Line.{Line}
use Rattle.faults.specs.declared.faults.Trouble.{Trouble}
use Rattle.faults.specs.declared.faults.Trouble.TheVariants.{Refused as RefusedBy}
use Rattle.faults.specs.declared.faults.Trouble.TheVariants.{Device as ByDevice}
use Rattle.faults.specs.declared.faults.Trouble.TheVariants.{NoMemory as ByMemory}
use Rattle.datalad_cli.specs.Commands.{Command, MayAnswer, MaySay, Reading, Misread, Asks}
use Rattle.datalad_cli.specs.Ends.{Telling, World}
use Rattle.datalad_cli.specs.Reports.{Failure, Says, SaysPart, of_device, of_memory, outcome_text}
use Rattle.datalad_cli.specs.Reports.{printed}
use Rattle.datalad_cli.specs.declared.status.Status.{Status}
use Rattle.datalad_cli.specs.declared.status.Status.TheVariants.{Done, Refused, Usage, NoMemory}
use Rattle.datalad_cli.specs.declared.status.Status.TheVariants.{Device, CommandFailed}

-- A fault of an outcome is one that the command may answer.
abbrev pub HasFault : Bool → Command → Result (List ℕ) Trouble → Type 0
HasFault tells command (Ok _) = Unit {0}
HasFault tells command (Err (RefusedBy fault)) = MayAnswer tells command fault
HasFault tells command (Err ByDevice) = Unit {0}
HasFault tells command (Err ByMemory) = Unit {0}

-- Lines and an outcome that the command may have.
pub record MayEnd (tells : Bool) (command : Command) (lines : List Line)
    (outcome : Result (List ℕ) Trouble)
    : Type 0 where
  pub says : MaySay command lines outcome
  pub fault : HasFault tells command outcome

-- Lines that the command may say with this outcome, and the two texts that they make.
abbrev pub EndsSaying : Telling → Command → Result (List ℕ) Trouble → World → World → Type 0
EndsSaying telling command outcome old new =
    (lines : List Line) × MayEnd telling.files command lines outcome
    × Says telling.heard (printed lines outcome) (outcome_text outcome) old.tapes new.tapes

-- Lines and an outcome that the command may have, and first parts of the texts that they make; in
-- place of the second one the text of the failure, unless the second output itself failed.
abbrev pub EndsCutOff : Telling → Command → Failure → World → World → Type 0
EndsCutOff telling command failure old new =
    (lines : List Line) × (outcome : Result (List ℕ) Trouble)
    × MayEnd telling.files command lines outcome
    × SaysPart telling.heard (printed lines outcome) (outcome_text outcome) failure old.tapes
    new.tapes

-- The texts of a command by its status.
abbrev pub CommandSays : Telling → Command → World → World → Status → Type 0
CommandSays telling command old new Done =
    (text : List ℕ) × EndsSaying telling command (Ok text) old new
CommandSays telling command old new (Refused fault) =
    EndsSaying telling command (Err (RefusedBy fault)) old new
CommandSays telling command old new Device = EndsCutOff telling command of_device old new
CommandSays telling command old new NoMemory = EndsCutOff telling command of_memory old new
CommandSays telling command old new (Usage at) = ⊥
CommandSays telling command old new (CommandFailed got) = ⊥

-- Whatever the files tell, the texts and the fault of a call are among those that its command may
-- have. Of words without a reading all is said already.
abbrev pub WordsDecide : Telling → Reading → World → World → Status → Type 0
WordsDecide telling (Misread at) old new status = Unit {0}
WordsDecide telling (Asks command) old new status = CommandSays telling command old new status
