use Rattle.std.proofs.Common.{◌≡◌, ◌++◌}
use Rattle.std.specs.List.{filter}
use Rattle.file_store.specs.Disk.{is_open}
use Rattle.file_store.specs.Memory.Moment.{disk_of}
use Rattle.file_store.proofs.memory.image.open_among.Given as goal

abbrev pub invariant-loop-place : goal.invariant-loop-place
invariant-loop-place l =
    l.open.items ++ filter (is_open (disk_of l.moment)) l.place-iterator ≡ filter (is_open (disk_of l.moment)) l.named.keys
