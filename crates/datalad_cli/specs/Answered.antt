-- What is promised of a call of the program, as one fact for those that pass it on.
use Rattle.datalad_cli.specs.Answer.{Call}
use Rattle.datalad_cli.specs.Commands.{HasOneReading, IsReading, Reading}
use Rattle.datalad_cli.specs.Decides.{WordsDecide}
use Rattle.datalad_cli.specs.Ends.{ReadingEnds, Telling, World}
use Rattle.datalad_cli.specs.declared.status.Status.{Status}

-- A call was answered by this status, by the one reading that its words have: it went as the act of
-- its words at every moment and ends as the act does, and what its words alone decide holds
-- whatever the files tell.
pub record Answered (telling : Telling) (call : Call) (old new : World) (status : Status)
    : Type 0 where
  pub reading : Reading
  pub is : IsReading call reading
  pub one : HasOneReading call
  pub ends : ReadingEnds telling reading old new status
  pub words : WordsDecide telling reading old new status
