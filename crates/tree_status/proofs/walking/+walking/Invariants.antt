use Rattle.std.proofs.Common.{◌≡◌, ◌+◌, ◌-◌, ◌*◌, length, take}
use Rattle.std.specs.Prelude.{IsTrue}
use Rattle.file_store.specs.All.{present}
use Rattle.tree_status.specs.Keeping.{limit_by}
use Rattle.tree_status.specs.Working.{items}
use Rattle.tree_status.specs.Walks.{IsAt, Went}
use Rattle.tree_status.proofs.Parts.{parts}
use Rattle.tree_status.proofs.walking.+walking.Given as goal

-- each directory's paths begin with more than those of the one above it
abbrev pub decreases-take_task : goal.decreases-take_task
decreases-take_task g l = 2 * (4098 - length l.front.now)

abbrev pub decreases-walk : goal.decreases-walk
decreases-walk g l = 2 * (4098 - length l.front.now) + 1

-- nothing has changed, and the items of the tasks so far were met
abbrev pub invariant-walk-loop-task : goal.invariant-walk-loop-task
invariant-walk-loop-task g l =
    let drive = g.F.Files.drive in
    record {
      later : (drive l.files).faults ≡ (drive l.fn.files).faults;
      same : IsTrue g.F.Files.tells → (drive l.files).history ≡ (drive l.fn.files).history;
      went : IsTrue g.F.Files.tells → IsAt l.root l.place l.front
          → Went (limit_by l.by) l.root (parts l.front (take l.task-index l.task-items) (items l.root (present (drive l.fn.files)))) l.fn.found l.found;
    }
