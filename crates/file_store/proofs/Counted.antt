-- Counts of faults over calls that follow each other.
use Rattle.std.proofs.Common.{◌≡◌, ℕ, Bool, subst}
use Rattle.file_store.specs.Causes.{Counts}

-- a call counts from where an earlier one let the count stand
pub counts_from : (answers : Bool) (last : ℕ) {first mid : ℕ} → mid ≡ first → Counts answers mid last → Counts answers first last
counts_from answers last same counts = subst (λ (n : ℕ). Counts answers n last) same counts
