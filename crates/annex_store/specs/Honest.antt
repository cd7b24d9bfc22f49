-- The honest log: it doesn't say that a repository has a content that doesn't stand.
use Rattle.std.specs.Prelude.{◌≡◌, ◌⊎◌, ℕ, List, Some}
use Rattle.places.specs.All.{Names, Ground, file_at}
use Rattle.file_store.specs.All.{Disk, Drive, IsImage, Since, WasOpen, present}
use Rattle.annex_keys.specs.All.{Matches, PlainKey}
use Rattle.location_log.specs.All.{IsPresent, PlainLine}
use Rattle.acts.specs.All.{Act, Moments}
use Rattle.annex_store.specs.Keeping.{IsKeep}
use Rattle.annex_store.specs.Layout.{content_place, log_place}
use Rattle.annex_store.specs.Logs.{IsLogIn}

-- Bytes that match the key stand at its content's place.
pub record Stands (repo : Names) (key : PlainKey) (g : Ground) : Type 0 where
  pub bytes : List ℕ
  pub stands : file_at g (content_place repo key) ≡ Some bytes
  pub matching : Matches key bytes

-- Where the log of the key says that the repository has the content, it stands.
abbrev pub IsHonest : Names → List ℕ → PlainKey → Ground → Type 0
IsHonest repo uuid key g =
    (lines : List PlainLine) → IsLogIn (file_at g (log_place repo key)) lines
    → IsPresent lines uuid → Stands repo key g

-- A crash before the call might have left this at the log's place or at the content's.
abbrev pub WasOpenThere : Disk → Names → PlainKey → Ground → Type 0
WasOpenThere start repo key x =
    WasOpen start (log_place repo key) (file_at x (log_place repo key))
    ⊎ WasOpen start (content_place repo key) (file_at x (content_place repo key))

-- The log is honest in what stands, and in each ground that a crash may leave.
abbrev pub StaysHonest : Names → List ℕ → PlainKey → Disk → Disk → Type 0
StaysHonest repo uuid key start d =
    IsHonest repo uuid key d.now
    × ((x : Ground) → IsImage d x → IsHonest repo uuid key x ⊎ WasOpenThere start repo key x)

-- At every moment of each act that a keeping may be, a log that was honest is so.
abbrev pub KeepIsHonest : Type 0
KeepIsHonest =
    (repo : Names) (uuid : List ℕ) (key : PlainKey) (bytes : List ℕ) (moment : ℕ)
    (act : Act (Unit {0})) (old new : Drive) → Matches key bytes
    → IsKeep repo uuid key bytes moment (present old) act → IsHonest repo uuid key (present old)
    → Moments act old new
    → Since (λ d. StaysHonest repo uuid key old.history.latest d) old.history new.history
