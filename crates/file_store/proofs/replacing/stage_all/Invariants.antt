use Rattle.std.proofs.Common.{IsTrue, ◌≡◌, take}
use Rattle.file_store.specs.Rounds.{AreStaged}
use Rattle.file_store.proofs.replacing.stage_all.Given as goal

abbrev pub invariant-loop-replacement : goal.invariant-loop-replacement
invariant-loop-replacement g l = record {
  reached : IsTrue g.F.Files.tells → AreStaged (take l.replacement-index l.list) (g.F.Files.drive l.fn.files) (g.F.Files.drive l.files);
  no_more : (g.F.Files.drive l.files).faults ≡ (g.F.Files.drive l.fn.files).faults;
}
