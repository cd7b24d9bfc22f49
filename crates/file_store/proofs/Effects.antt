-- A call that had its effect has made a step.
use Rattle.std.proofs.Common.{◌≡◌, inr, ℕ, ◌++◌, List, [], refl}
use Rattle.std.specs.Prelude.{unwrap_or}
use Rattle.places.specs.All.{Names, file_at}
use Rattle.file_store.specs.Disk.{Disk, History, next, MayStep, IsWritten, wrote, appended}

pub may_step : (S : Disk → Disk → Type 0) (old new : History) (d : Disk) → new ≡ next old d → S old.latest d → MayStep S old new
may_step S old new d is s = inr (d, s, is)

pub may_write : (p : Names) (bytes : List ℕ) (old new : History) → new ≡ next old (wrote p bytes old.latest) → MayStep (IsWritten p) old new
may_write p bytes old new is = may_step (IsWritten p) old new (wrote p bytes old.latest) is (bytes, refl)

pub may_append : (p : Names) (bytes : List ℕ) (old new : History) → new ≡ next old (appended p bytes old.latest) → MayStep (IsWritten p) old new
may_append p bytes old new is = may_step (IsWritten p) old new (appended p bytes old.latest) is (unwrap_or (file_at old.latest.now p) [] ++ bytes, refl)
