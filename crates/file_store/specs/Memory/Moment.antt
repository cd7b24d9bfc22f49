-- A disk of one moment, as the replay of its calls keeps it.
use Rattle.std.specs.Prelude.{ℕ, Bool, not, ◌||◌, List}
use Rattle.std.specs.BTreeSet.{contains}
use Rattle.places.specs.All.{Names, place_cmp, file_at}
use Rattle.file_store.specs.Disk.{Disk, same_file}
use Rattle.file_store.specs.declared.memory.moment.Moment.{Moment}

-- What stands, what of it is safe, and which places are torn.
abbrev pub disk_of : Moment → Disk
disk_of m = record { now = m.current; safe = m.safe; torn = λ q. contains place_cmp m.torn q }

-- Whether a rename makes its target torn: where the source is torn, or what stands at the target
-- isn't safe.
abbrev pub tears : Disk → Names → Names → Bool
tears d from to = d.torn from || not (same_file (file_at d.now to) (file_at d.safe to))
