use Rattle.std.proofs.Common.{◌≡◌, take}
use Rattle.tree_status.specs.Changes.{paths_of}
use Rattle.tree_status.proofs.FilesKept.{SoFar}
use Rattle.tree_status.proofs.keeping_files.keep_files.Given as goal

-- the files so far, as they are kept
abbrev pub invariant-loop-path : goal.invariant-loop-path
invariant-loop-path g l =
    let drive = g.F.Files.drive in
    record {
      reads : SoFar g.F.Files.tells l.root l.by (take l.path-index l.paths) l.list.items (drive l.fn.files) (drive l.files);
      paths : paths_of l.list.items ≡ take l.path-index l.paths;
    }
