use Rattle.std.proofs.Common.{◌≤◌, take}
use Rattle.recursive_save.specs.Saving.{blobs_limit}
use Rattle.tree_status.specs.All.{shown}
use Rattle.recursive_save.proofs.BlobFacts.{SoFar}
use Rattle.recursive_save.proofs.blobs.read_blobs.Given as goal

-- the blobs of the files so far, and how many bytes they have
abbrev pub invariant-loop-file : goal.invariant-loop-file
invariant-loop-file g l =
    let drive = g.F.Files.drive in
    record {
      few : l.sum ≤ blobs_limit;
      reads : SoFar g.F.Files.tells l.root (shown (take l.file-index l.list)) l.sum l.objects.items (drive l.fn.files) (drive l.files);
    }
