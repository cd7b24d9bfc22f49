use Rattle.std.proofs.Common.{Ok, take}
use Rattle.object_store.specs.Looks.{HaveIds, MissingReads, AreFiles}
use Rattle.object_store.proofs.looking.missing.Given as goal

-- what the call promises, of the objects so far
abbrev pub invariant-loop-object : goal.invariant-loop-object
invariant-loop-object g l =
    let drive = g.F.Files.drive in
    record {
      so_far : MissingReads g.F.Files.tells l.repo (take l.object-index l.objects) (drive l.fn.files) (drive l.files) (Ok l.list);
      files : AreFiles l.repo l.list.items;
      known : HaveIds l.repo l.list.items l.ids;
    }
