-- A disk in memory, by the ground that it began with and the calls that changed it.
use Rattle.std.specs.Prelude.{List, [], fold, if◌then◌else◌}
use Rattle.places.specs.All.{Names, Ground, stands}
use Rattle.file_store.specs.Disk.{Disk, History, Drive, at_rest, next, wrote, appended, renamed}
use Rattle.file_store.specs.Disk.{removed, synced}
use Rattle.file_store.specs.declared.memory.disk.Call.{Call}
use Rattle.file_store.specs.declared.memory.disk.Call.TheVariants.{Write, Append, Rename, Remove}
use Rattle.file_store.specs.declared.memory.disk.Call.TheVariants.{Barrier}

-- The history of a disk that has begun with this ground, all of it safe.
abbrev pub began : Ground → History
began g = record { latest = at_rest g; earlier = [] }

-- The drive of that disk, which never failed.
abbrev pub untouched : Ground → Drive
untouched g = record { history = began g; faults = 0 }

-- The disk after a call.
abbrev pub after_call : Call → Disk → Disk
after_call (Write place bytes) d = wrote place bytes.items d
after_call (Append place bytes) d = appended place bytes.items d
after_call (Rename from to) d = renamed from to d
after_call (Remove place) d = removed place d
after_call Barrier d = synced d

-- With one change more.
abbrev pub with_change : (Disk → Disk) → History → History
with_change change h = next h (change h.latest)

-- With one change more where a file stands at the place, and else the same.
abbrev pub with_change_at : Names → (Disk → Disk) → History → History
with_change_at place change h = if stands h.latest.now place then with_change change h else h

-- With one call more.
abbrev pub called : History → Call → History
called h call = with_change (after_call call) h

-- The history of a disk that has begun with this ground, after these calls.
abbrev pub history_of : Ground → List Call → History
history_of first calls = fold called (began first) calls
