-- An error of files as the layers above hand it on.
use Rattle.file_store.specs.declared.errors.FileErr.{FileErr}
use Rattle.file_store.specs.declared.errors.FileErr.TheVariants.{Failed, Blocked, NoMemory}
use Rattle.faults.specs.declared.faults.Fault.TheVariants.{Blocked as FaultBlocked}
use Rattle.faults.specs.declared.faults.Trouble.{Trouble}
use Rattle.faults.specs.declared.faults.Trouble.TheVariants.{Refused, Device}
use Rattle.faults.specs.declared.faults.Trouble.TheVariants.{NoMemory as TroubleNoMemory}

-- An error of files, as the trouble of a call above them.
abbrev pub trouble_of : FileErr → Trouble
trouble_of Failed = Device
trouble_of (Blocked place) = Refused (FaultBlocked place)
trouble_of NoMemory = TroubleNoMemory
