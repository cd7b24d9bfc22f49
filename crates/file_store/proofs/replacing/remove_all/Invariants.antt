use Rattle.std.proofs.Common.{IsTrue, ◌≡◌}
use Rattle.file_store.proofs.Removals.{Removing}
use Rattle.file_store.proofs.replacing.remove_all.Given as goal

abbrev pub invariant-loop-place : goal.invariant-loop-place
invariant-loop-place g l = record {
  reached : IsTrue g.F.Files.tells → Removing l.list (g.F.Files.drive l.fn.files).history (g.F.Files.drive l.files).history l.place-index;
  no_more : (g.F.Files.drive l.files).faults ≡ (g.F.Files.drive l.fn.files).faults;
}
