use Rattle.std.proofs.Common.{◌≡◌, IsTrue, take}
use Rattle.file_store.specs.All.{present}
use Rattle.annex_store.specs.Members.{IsPart, shown, unkept}
use Rattle.annex_store.proofs.storing.unkept.Given as goal

abbrev pub invariant-loop-content : goal.invariant-loop-content
invariant-loop-content g l = record {
  told : IsTrue g.F.Files.tells → ((g.F.Files.drive l.files).history ≡ (g.F.Files.drive l.fn.files).history)
      × (shown l.found.items ≡ unkept l.repo (shown (take l.content-index l.list)) (present (g.F.Files.drive l.fn.files)));
  part : IsPart (shown l.found.items) (shown (take l.content-index l.list));
  stood : (g.F.Files.drive l.files).faults ≡ (g.F.Files.drive l.fn.files).faults;
}
