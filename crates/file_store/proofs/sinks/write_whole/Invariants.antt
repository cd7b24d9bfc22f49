use Rattle.std.proofs.Common.{◌≡◌, ◌-◌, ◌≤◌, length}
use Rattle.std.specs.Prelude.{take}
use Rattle.file_store.specs.Tape.{Grew}
use Rattle.file_store.proofs.sinks.write_whole.Given as goal

abbrev pub invariant-loop-done : goal.invariant-loop-done
invariant-loop-done g l =
    let tape = g.S.Sink.tape in
    record {
      within : l.done ≤ length l.bytes;
      faults : (tape l.sink).faults ≡ (tape l.fn.sink).faults;
      wants : (tape l.sink).wants ≡ (tape l.fn.sink).wants;
      taken : Grew g.S.Sink.tells (tape l.fn.sink) (tape l.sink) (take l.done l.bytes);
    }

abbrev pub decreases-loop-done : goal.decreases-loop-done
decreases-loop-done g l = length l.bytes - l.done
