use Rattle.std.proofs.Common.{Ok, take}
use Rattle.snapshot.specs.Pointers.{AreOfFiles}
use Rattle.snapshot.proofs.Annexing.{PointReads}
use Rattle.snapshot.proofs.pointing.pointers.Given as goal

-- what the call promises, of the entries so far
abbrev pub invariant-loop-entry : goal.invariant-loop-entry
invariant-loop-entry g l =
    let drive = g.F.Files.drive in
    record {
      so_far : PointReads g.F.Files.tells l.repo (take l.entry-index l.entry-items) (drive l.fn.files) (drive l.files) (Ok l.found);
      files : AreOfFiles (take l.entry-index l.entry-items) l.found.items;
    }
