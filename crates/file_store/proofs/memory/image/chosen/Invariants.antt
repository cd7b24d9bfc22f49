use Rattle.file_store.specs.Memory.Moment.{disk_of}
use Rattle.file_store.proofs.Chosen.{AreChosen}
use Rattle.file_store.proofs.memory.image.chosen.Given as goal

abbrev pub invariant-loop-i : goal.invariant-loop-i
invariant-loop-i l = AreChosen (disk_of l.moment) l.places l.choices l.i l.left
