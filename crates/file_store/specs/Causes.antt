-- Counts of faults, and how the answers of calls go with them.
use Rattle.std.specs.Prelude.{◌≡◌, ℕ, ◌+◌, ◌-◌, ◌^◌, ◌≤◌, min, Bool, true, false, Result, Ok, Err}
use Rattle.file_store.specs.declared.errors.FileErr.{FileErr}
use Rattle.file_store.specs.declared.errors.FileErr.TheVariants.{Failed, Blocked, NoMemory}

-- One more; a count that stands at its last value stays there.
abbrev pub one_more : ℕ → ℕ
one_more n = min (n + 1) (2 ^ 64 - 1)

-- A count went up. One that stands at its last value counts as one that rose.
abbrev pub Rose : ℕ → ℕ → Type 0
Rose before after = one_more before ≤ after

-- A count rose where a call answers what is counted, and stands where it answers anything else.
abbrev pub Counts : Bool → ℕ → ℕ → Type 0
Counts true before after = Rose before after
Counts false before after = after ≡ before

-- Whether a call of files answers that the device failed.
abbrev pub has_failed : {V : Type 0} → Result V FileErr → Bool
has_failed (Ok v) = false
has_failed (Err Failed) = true
has_failed (Err (Blocked at)) = false
has_failed (Err NoMemory) = false
