-- What the host's files tell: nothing of contents, and how often they failed.
use Rattle.std.specs.Prelude.{◌≡◌, ℕ, []}
use Rattle.std.specs.FinMap.{empty}
use Rattle.file_store.specs.All.{Rose, Drive, at_rest}
use Rattle.file_store.specs.declared.errors.FileErr.{FileErr}
use Rattle.file_store.specs.declared.errors.FileErr.TheVariants.{Failed, Blocked, NoMemory}

-- A drive that tells nothing.
abbrev pub silent : ℕ → Drive
silent faults = record {
  history = record { latest = at_rest empty; earlier = [] };
  faults = faults;
}

-- An error of the host: a fault, and the count rose; or want of memory, and the count stands.
abbrev pub IsFailure : ℕ → ℕ → FileErr → Type 0
IsFailure before after Failed = Rose before after
IsFailure before after (Blocked at) = ⊥
IsFailure before after NoMemory = after ≡ before
