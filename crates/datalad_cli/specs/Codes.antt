-- The exit status of each ending.
use Rattle.std.specs.Prelude.{ℕ}
use Rattle.datalad_cli.specs.declared.status.Status.{Status}
use Rattle.datalad_cli.specs.declared.status.Status.TheVariants.{Done, Refused, Usage, NoMemory}
use Rattle.datalad_cli.specs.declared.status.Status.TheVariants.{Device, CommandFailed}

-- The exit status, as a number.
abbrev pub code_of : Status → ℕ
code_of Done = 0
code_of (Refused fault) = 1
code_of (Usage at) = 2
code_of NoMemory = 3
code_of Device = 4
code_of (CommandFailed got) = 5
