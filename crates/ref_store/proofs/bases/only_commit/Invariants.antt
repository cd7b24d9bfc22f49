use Rattle.std.proofs.Common.{drop}
use Rattle.std.specs.Prelude.{IfSome}
use Rattle.std.specs.List.{Contains}
use Rattle.ref_store.proofs.Searching.{IsSoFar}
use Rattle.ref_store.proofs.bases.only_commit.Given as goal

-- what is left comes to what the whole comes to
abbrev pub invariant-loop-id : goal.invariant-loop-id
invariant-loop-id g l =
    let drive = g.F.Files.drive in
    record {
      so_far : IsSoFar g.F.Files.tells l.repo l.word l.ids (drive l.fn.files) l.found (drop l.id-index l.ids) (drive l.files);
      among : IfSome l.found (Contains l.ids);
    }
