use Rattle.std.proofs.Common.{take}
use Rattle.annex_store.specs.Members.{AreOutside, shown}
use Rattle.annex_store.proofs.Stored.{Storing}
use Rattle.annex_store.proofs.storing.store.Given as goal

abbrev pub invariant-loop-content : goal.invariant-loop-content
invariant-loop-content g l = AreOutside l.repo (shown l.list)
    → Storing g.F.Files.tells l.repo (shown (take l.content-index l.list)) (g.F.Files.drive l.fn.files) (g.F.Files.drive l.files) l.moves.items
