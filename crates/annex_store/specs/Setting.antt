-- How the log of a key is set.
use Rattle.std.specs.Prelude.{◌≡◌, ◌<◌, ℕ, Bool, IsTrue, if◌then◌else◌, nat_lt, List, length}
use Rattle.std.specs.Prelude.{Option, None}
use Rattle.places.specs.All.{Names, text_of}
use Rattle.file_store.specs.All.{only}
use Rattle.faults.specs.declared.faults.Fault.{Fault}
use Rattle.faults.specs.declared.faults.Fault.TheVariants.{TooLarge, Blocked}
use Rattle.annex_keys.specs.All.{PlainKey}
use Rattle.location_log.specs.All.{PlainLine, log_text}
use Rattle.repository.specs.All.{tmp_place, large, repo_limit}
use Rattle.acts.specs.All.{Step, unless, bind, puts}
use Rattle.annex_store.specs.Layout.{log_place}

-- The refusal of a repository whose place is too long to write in.
abbrev pub long_repo : Names → Option Fault
long_repo repo = if nat_lt repo_limit (length (text_of repo)) then large repo else None

-- A repository's place is too long to write in: the fault names it, with its length.
abbrev pub IsLongRepo : Names → List ℕ → ℕ → Type 0
IsLongRepo repo path size =
    (path ≡ text_of repo) × (size ≡ length (text_of repo)) × (repo_limit < length (text_of repo))

-- One file is put, by way of the first temporary place.
abbrev pub puts_one : Names → Names → List ℕ → Step (Unit {0})
puts_one repo place text = puts (only (tmp_place repo 0) place text)

-- A set log: nothing where it is refused, else its file has the text of the lines.
unfoldable pub sets_log : Names → PlainKey → List PlainLine → Step (Unit {0})
sets_log repo key lines =
    bind (unless (λ g. long_repo repo)) (λ _. puts_one repo (log_place repo key) (log_text lines))

-- The faults that the setting of a log may hand on, whatever the files tell: the repository's
-- place, or a file that is told to be in the way.
abbrev pub MaySetLog : Bool → Names → Fault → Type 0
MaySetLog tells repo (TooLarge path size) = IsLongRepo repo path size
MaySetLog tells repo (Blocked at) = IsTrue tells
MaySetLog tells repo fault = ⊥
