-- How the program begins, and how it ends.
use Rattle.std.specs.Prelude.{◌≡◌, ◌↔◌, ℕ, ◌*◌, ◌+◌, ◌^◌, ◌≤◌, ◌<◌, List}
use Rattle.std.specs.declared.io.ErrorKind.{ErrorKind}
use Rattle.std.specs.declared.io.ErrorKind.TheVariants.{OutOfMemory}
use Rattle.datalad_cli.specs.All.{device_text, memory_text, code_of}
use Rattle.datalad_cli.specs.declared.status.Status.{Status}
use Rattle.datalad_cli.specs.declared.status.Status.TheVariants.{Device, NoMemory}
use Rattle.datalad.specs.declared.start.Failure.{Failure}
use Rattle.datalad.specs.declared.start.Failure.TheVariants.{Host, NoMemory as NoMemoryToBegin}

-- The whole seconds in a number of nanoseconds.
pub record IsSeconds (nanos seconds : ℕ) : Type 0 where
  pub passed : seconds * 10 ^ 9 ≤ nanos
  pub whole : nanos < (seconds + 1) * 10 ^ 9

-- An error of the host is want of memory exactly where its kind says so.
abbrev pub IsFailureOf : ErrorKind → Failure → Type 0
IsFailureOf kind failure = (failure ≡ NoMemoryToBegin) ↔ (kind ≡ OutOfMemory)

-- A program that can't begin ends as if a device had failed, or for want of memory.
abbrev pub ending : Failure → Status
ending Host = Device
ending NoMemoryToBegin = NoMemory

-- The text of a program that can't begin.
abbrev pub ending_text : Failure → List ℕ
ending_text Host = device_text
ending_text NoMemoryToBegin = memory_text
