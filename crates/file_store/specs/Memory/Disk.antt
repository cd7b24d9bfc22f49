-- What a disk in memory has been.
use Rattle.std.specs.Prelude.{◌≡◌, ℕ, List, Option, is_some, MatchOption}
use Rattle.std.proofs.Common.{◌∙◌, ap}
use Rattle.places.specs.All.{Names, Ground, file_at, IsGround}
use Rattle.file_store.specs.Disk.{History, IsImage}
use Rattle.file_store.specs.Memory.Calls.{began, history_of}
use Rattle.file_store.specs.Memory.Images.{IsLeft}
use Rattle.file_store.specs.declared.memory.disk.MemDisk.{MemDisk}

-- The disks that there have been.
abbrev pub history_in : MemDisk → History
history_in m = history_of m.first m.calls.items

-- What a crash leaves by these choices, all of it safe, which is an image of the disk; none where
-- it would have a file above another.
abbrev pub IsImageBy : MemDisk → List ℕ → Option MemDisk → Type 0
IsImageBy m choices found =
    (g : Ground) × IsLeft (history_in m).latest choices g
    × MatchOption found (¬ (IsGround g))
    (λ image. (history_in image ≡ began g) × IsImage (history_in m).latest g)

-- What a read sees.
abbrev pub ground_in : MemDisk → Ground
ground_in m = (history_in m).latest.now

-- A ground with the same files is one too.
pub IsGround-same : (g h : Ground) → ((q : Names) → file_at g q ≡ file_at h q)
    → IsGround g → IsGround h
IsGround-same g h same clash_free p q some_p some_q above =
    clash_free p q (ap is_some (same p) ∙ some_p) (ap is_some (same q) ∙ some_q) above

-- No file stands below another.
pub grounded_in : (m : MemDisk) → IsGround (ground_in m)
grounded_in m = IsGround-same m.current (ground_in m) m.consistent m.clash_free
