use Rattle.std.proofs.Common.{◌-◌, ◌*◌, ◌+◌, length, take}
use Rattle.snapshot.specs.Walks.{Spells}
use Rattle.snapshot.proofs.Walks.{WereRead}
use Rattle.snapshot.proofs.flattening.+flattening.Given as goal

-- each directory's path is longer than that of the one above it
abbrev pub decreases-add_entry : goal.decreases-add_entry
decreases-add_entry g l = 2 * (4098 - length l.path.now)

abbrev pub decreases-add_tree : goal.decreases-add_tree
decreases-add_tree g l = 2 * (4098 - length l.path.now) + 1

-- the entries so far were read
abbrev pub invariant-add_tree-loop-entry : goal.invariant-add_tree-loop-entry
invariant-add_tree-loop-entry g l =
    let drive = g.F.Files.drive in
    record {
      so_far : WereRead g.F.Files.tells l.repo l.path l.id.0 l.fn.found (drive l.fn.files) (take l.entry-index l.entry-items) l.found (drive l.files);
      spells : Spells l.path (take l.entry-index l.entry-items) l.fn.found l.found;
    }
