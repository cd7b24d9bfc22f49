-- How HEAD and the tip are set.
use Rattle.std.specs.Prelude.{◌⊎◌, ◌≡◌, ℕ, Bool, IsTrue, if◌then◌else◌, nat_lt, List, length}
use Rattle.std.specs.Prelude.{Option, None}
use Rattle.places.specs.All.{Names, text_of, longest, Ground}
use Rattle.file_store.specs.All.{or_next, only}
use Rattle.faults.specs.declared.faults.Fault.{Fault}
use Rattle.faults.specs.declared.faults.Fault.TheVariants.{Damaged, TooLarge, Blocked}
use Rattle.repository.specs.All.{id_text, repo_head, tip_place, tmp_place, large, repo_limit}
use Rattle.acts.specs.All.{Step, unless, bind, puts}
use Rattle.ref_store.specs.Forms.{head_text}
use Rattle.ref_store.specs.Reading.{branch_by, head_at, head_fault, IsOver}
use Rattle.ref_store.specs.declared.heads.Head.{Head}

-- The refusal of a repository whose place is too long to write in.
abbrev pub long_repo : Names → Option Fault
long_repo repo = if nat_lt repo_limit (length (text_of repo)) then large repo else None

-- Why no tip is set: HEAD isn't read, or nothing may be written. The branch's file isn't read.
abbrev pub set_fault : Names → Ground → Option Fault
set_fault repo g = or_next (head_fault repo g) (long_repo repo)

-- The file of the tip: the branch's, or HEAD where it is detached.
abbrev pub tip_at : Names → Ground → Names
tip_at repo g = tip_place repo (branch_by (head_at repo g))

-- One file is put, by way of the first temporary place.
abbrev pub puts_one : Names → Names → List ℕ → Step (Unit {0})
puts_one repo place text = puts (only (tmp_place repo 0) place text)

-- A set tip: nothing where it is refused, else the tip's file names the id.
unfoldable pub sets_tip : Names → List ℕ → Step (Unit {0})
sets_tip repo id =
    bind (unless (set_fault repo)) (λ _ g. puts_one repo (tip_at repo g) (id_text id) g)

-- A set HEAD: nothing where it is refused, else HEAD has the head's text.
unfoldable pub sets_head : Names → Head → Step (Unit {0})
sets_head repo head =
    bind (unless (λ g. long_repo repo)) (λ _. puts_one repo (repo_head repo) (head_text head))

-- The faults that a setting of the tip may hand on, whatever the files tell: HEAD's place, the
-- repository's, or a file that is told to be in the way.
abbrev pub MaySetTip : Bool → Names → Fault → Type 0
MaySetTip tells repo (Damaged place) = place ≡ repo_head repo
MaySetTip tells repo (TooLarge path size) =
    IsOver longest (repo_head repo) path size ⊎ IsOver repo_limit repo path size
MaySetTip tells repo (Blocked at) = IsTrue tells
MaySetTip tells repo fault = ⊥

-- The same of a setting of HEAD, which isn't read.
abbrev pub MaySetHead : Bool → Names → Fault → Type 0
MaySetHead tells repo (TooLarge path size) = IsOver repo_limit repo path size
MaySetHead tells repo (Blocked at) = IsTrue tells
MaySetHead tells repo fault = ⊥
