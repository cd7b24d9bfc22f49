-- What an output in memory tells.
use Rattle.file_store.specs.Tape.{Tape}
use Rattle.file_store.specs.declared.memory.sink.MemSink.{MemSink}

-- The bytes that it took, how often it failed, and how often it found no memory.
abbrev pub tape_of : MemSink → Tape
tape_of sink = record { bytes = sink.bytes.items; faults = sink.plan.faults; wants = sink.wants }
