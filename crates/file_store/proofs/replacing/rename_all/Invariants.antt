use Rattle.std.proofs.Common.{IsTrue, List, ◌≡◌}
use Rattle.file_store.specs.Rounds.{AreMovesOf, AreReady}
use Rattle.file_store.specs.declared.replacing.Replacement.{Replacement}
use Rattle.file_store.proofs.Moves.{Moving}
use Rattle.file_store.proofs.replacing.rename_all.Given as goal

abbrev pub invariant-loop-file : goal.invariant-loop-file
invariant-loop-file g l = record {
  reached : (list : List Replacement) → AreMovesOf l.moves list → (IsTrue g.F.Files.tells → AreReady list (g.F.Files.drive l.fn.files)) → IsTrue g.F.Files.tells
      → Moving list (g.F.Files.drive l.fn.files).history (g.F.Files.drive l.files).history l.file-index;
  no_more : (g.F.Files.drive l.files).faults ≡ (g.F.Files.drive l.fn.files).faults;
}
