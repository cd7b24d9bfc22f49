use Rattle.std.proofs.Common.{take, drop}
use Rattle.file_store.proofs.Gathered.{Gathered}
use Rattle.file_store.proofs.memory.lists.contents_of.Given as goal

abbrev pub invariant-loop-file : goal.invariant-loop-file
invariant-loop-file l = Gathered l.list (take l.file-index l.list) (drop l.file-index l.list) l.contents
