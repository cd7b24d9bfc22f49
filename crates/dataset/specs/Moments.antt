-- Acts that keep a ground sound at every moment, and in whatever a crash leaves.
use Rattle.std.specs.Prelude.{◌≡◌, Bool, false, List}
use Rattle.places.specs.All.{Names, Ground}
use Rattle.file_store.specs.All.{Round, Disk, Drive, Since, IsImage, is_open, at_rest, present}
use Rattle.acts.specs.All.{Act, rounds_in, Moments, Reaches}
use Rattle.dataset.specs.Watched.{IsWatched}
use Rattle.dataset.specs.Sound.{Sound}
use Rattle.dataset.specs.Rounds.{AllKeepSound, IsIntactAlong}

-- A disk is settled where a crash leaves at each watched place what stands there.
abbrev pub IsSettled : Disk → Type 0
IsSettled d = (q : Names) → IsWatched q → is_open d q ≡ false

-- So is a disk at rest, as that of a machine that starts with what a crash has left.
abbrev pub RestIsSettled : Type 0
RestIsSettled = (g : Ground) → IsSettled (at_rest g)

-- None of an act's loose places is watched.
abbrev pub IsLooseElsewhere : (Names → Bool) → Type 0
IsLooseElsewhere loose = (q : Names) → IsWatched q → loose q ≡ false

-- An act keeps a sound ground sound: each of its rounds does, and its loose places aren't watched.
pub record ActKeeps {V : Type 0} (act : Act V) (g : Ground) : Type 0 where
  pub rounds : AllKeepSound (rounds_in act) g
  pub loose : IsLooseElsewhere act.loose

-- What stands on a disk, and each ground that a crash may leave of it, is intact on the way of some
-- rounds.
pub record IsIntactDisk (g : Ground) (rounds : List Round) (d : Disk) : Type 0 where
  pub stands : IsIntactAlong g rounds d.now
  pub images : (x : Ground) → IsImage d x → IsIntactAlong g rounds x

-- An act begins on a sound ground and a settled disk, and keeps the ground sound.
pub record BeginsSound {V : Type 0} (act : Act V) (old : Drive) : Type 0 where
  pub sound : Sound (present old)
  pub settled : IsSettled old.history.latest
  pub keeps : ActKeeps act (present old)

-- At every moment of such an act, what stands and what a crash leaves is sound, has the heads of
-- one of the act's grounds and holds what was held, and no content that matched its key is lost.
-- When it is done, what stands is sound and the disk settled again.
pub record StaysSound {V : Type 0} (act : Act V) (old new : Drive) : Type 0 where
  pub moments : Moments act old new
      → Since (λ d. IsIntactDisk (present old) (rounds_in act) d) old.history new.history
  pub sound : Reaches act old new → Sound (present new)
  pub settled : Reaches act old new → IsSettled new.history.latest

-- Each act that begins so stays so.
abbrev pub ActsStaySound : Type 0 → Type 0
ActsStaySound V =
    (act : Act V) (old new : Drive) → BeginsSound act old → StaysSound act old new
