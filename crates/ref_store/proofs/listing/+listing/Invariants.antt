use Rattle.std.proofs.Common.{◌≡◌, ◌+◌, ◌-◌, ◌*◌, length, take}
use Rattle.std.specs.Prelude.{IsTrue}
use Rattle.file_store.specs.All.{present}
use Rattle.ref_store.specs.Listing.{AddsNames, AllBranches, is_under}
use Rattle.ref_store.proofs.listing.+listing.Given as goal

-- the names in a directory begin with more than those in the one above it
abbrev pub decreases-take_item : goal.decreases-take_item
decreases-take_item g l = 2 * (201 - length l.front.now)

abbrev pub decreases-walk : goal.decreases-walk
decreases-walk g l = 2 * (201 - length l.front.now) + 1

-- nothing has changed, and the branches of the items so far were added
abbrev pub invariant-walk-loop-item : goal.invariant-walk-loop-item
invariant-walk-loop-item g l =
    let drive = g.F.Files.drive in
    record {
      later : (drive l.files).faults ≡ (drive l.fn.files).faults;
      same : IsTrue g.F.Files.tells → (drive l.files).history ≡ (drive l.fn.files).history;
      adds : IsTrue g.F.Files.tells → AddsNames (is_under l.repo l.front (present (drive l.fn.files)) (take l.item-index l.item-items)) l.fn.names l.names;
      named : AllBranches l.names;
    }
