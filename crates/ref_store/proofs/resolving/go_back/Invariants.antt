use Rattle.ref_store.proofs.Walking.{IsUnderWay}
use Rattle.ref_store.proofs.resolving.go_back.Given as goal

abbrev pub invariant-loop-passed : goal.invariant-loop-passed
invariant-loop-passed g l =
    let drive = g.F.Files.drive in
    IsUnderWay g.F.Files.tells l.repo l.fn.start.0 (drive l.fn.files) l.passed l.id.0 (drive l.files)
