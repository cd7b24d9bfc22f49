-- How a call ends that only reads.
use Rattle.std.specs.Prelude.{◌≡◌, Bool, IsTrue, Result, Ok, Err}
use Rattle.places.specs.All.{Ground}
use Rattle.file_store.specs.All.{Counts, Drive, present}
use Rattle.faults.specs.declared.faults.Fault.{Fault}
use Rattle.faults.specs.declared.faults.Trouble.{Trouble}
use Rattle.faults.specs.declared.faults.Trouble.TheVariants.{Refused, Device, NoMemory}
use Rattle.acts.specs.Ends.{HasCause, is_device}

-- The answer and the refusal are those of the ground.
abbrev pub ReadAs : {A : Type 0} → (Ground → A → Type 0) → (Ground → Fault → Type 0) → Ground
    → Result A Trouble → Type 0
ReadAs IsAnswer IsRefusal g (Ok answer) = IsAnswer g answer
ReadAs IsAnswer IsRefusal g (Err (Refused fault)) = IsRefusal g fault
ReadAs IsAnswer IsRefusal g (Err Device) = Unit {0}
ReadAs IsAnswer IsRefusal g (Err NoMemory) = Unit {0}

-- Nothing has changed, and what is answered is so on the ground.
pub record HasRead {A : Type 0} (IsAnswer : Ground → A → Type 0) (IsRefusal : Ground → Fault
    → Type 0)
    (old new : Drive) (result : Result A Trouble) : Type 0 where
  pub same : new.history ≡ old.history
  pub answer : ReadAs IsAnswer IsRefusal (present old) result

-- THE ONE CONTRACT of a call that only reads: the count of faults rose where it answers that a
-- device failed and stands where it answers anything else, a refusal has its cause and, where the
-- files tell, nothing has changed and the answer or the refusal is that of the ground.
pub record Reads {A : Type 0} (may : Fault → Type 0) (tells : Bool) (IsAnswer : Ground → A → Type 0)
    (IsRefusal : Ground → Fault
    → Type 0) (old new : Drive) (result : Result A Trouble) : Type 0 where
  pub later : Counts (is_device result) old.faults new.faults
  pub cause : HasCause may result
  pub told : IsTrue tells → HasRead IsAnswer IsRefusal old new result
