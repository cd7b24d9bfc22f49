-- What files in memory tell, and how they come of a list.
use Rattle.std.specs.Prelude.{◌≡◌, ℕ, List, Option, None, Some, Result, Ok, Err, Vec, MatchOption}
use Rattle.std.specs.declared.alloc.Global.{Global}
use Rattle.places.specs.All.{Names, Ground, IsGround}
use Rattle.file_store.specs.Disk.{Drive, IsImage}
use Rattle.file_store.specs.Memory.Calls.{untouched}
use Rattle.file_store.specs.Memory.Images.{IsLeft}
use Rattle.file_store.specs.Memory.Disk.{history_in}
use Rattle.file_store.specs.Memory.Lists.{places_in, ground_of, clash_of}
use Rattle.file_store.specs.declared.memory.errors.MemErr.{MemErr}
use Rattle.file_store.specs.declared.memory.errors.MemErr.TheVariants.{Clash, NoMemory}
use Rattle.file_store.specs.declared.memory.files.MemFiles.{MemFiles}

-- The disks that there have been, and how often a call failed.
abbrev pub drive_of : MemFiles → Drive
drive_of files = record { history = history_in files.disk; faults = files.plan.faults }

-- The files of the list stand and are safe, or the first place that clashes with an earlier one is
-- named.
abbrev pub FromListEnds : List (Names × Vec ℕ Global) → Result MemFiles MemErr → Type 0
FromListEnds list (Ok files) =
    (drive_of files ≡ untouched (ground_of list)) × (clash_of (places_in list) ≡ None)
FromListEnds list (Err (Clash at)) = clash_of (places_in list) ≡ Some at
FromListEnds list (Err NoMemory) = Unit {0}

-- What a crash leaves by these choices, all of it safe, which is an image of the disk; none where
-- it would have a file above another.
abbrev pub ImageEnds : MemFiles → List ℕ → Result (Option MemFiles) MemErr → Type 0
ImageEnds files choices (Ok found) =
    (g : Ground) × IsLeft (drive_of files).history.latest choices g
    × MatchOption found (¬ (IsGround g))
    (λ image. (drive_of image ≡ untouched g) × IsImage (drive_of files).history.latest g)
ImageEnds files choices (Err (Clash at)) = ⊥
ImageEnds files choices (Err NoMemory) = Unit {0}
