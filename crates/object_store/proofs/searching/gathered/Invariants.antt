use Rattle.std.proofs.Common.{◌≡◌}
use Rattle.std.specs.Prelude.{IsTrue}
use Rattle.file_store.specs.All.{present}
use Rattle.object_store.specs.Prefixes.{AllBegin}
use Rattle.object_store.proofs.Prefixes.{HaveIdsBelow}
use Rattle.object_store.proofs.searching.gathered.Given as goal

-- nothing has changed, and the ids with a lesser first byte are there
abbrev pub invariant-loop-first : goal.invariant-loop-first
invariant-loop-first g l =
    let drive = g.F.Files.drive in
    record {
      later : (drive l.files).faults ≡ (drive l.fn.files).faults;
      same : IsTrue g.F.Files.tells → (drive l.files).history ≡ (drive l.fn.files).history;
      below : IsTrue g.F.Files.tells → HaveIdsBelow l.repo l.digits (present (drive l.fn.files)) l.first l.ids;
      begin : AllBegin l.digits l.ids;
    }
