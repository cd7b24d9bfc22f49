-- How HEAD and the tip are read.
use Rattle.std.specs.Prelude.{◌≡◌, ◌<◌, ℕ, Bool, if◌then◌else◌, nat_lt, List, length, Option, Some}
use Rattle.std.specs.Prelude.{None, option_map, Result}
use Rattle.places.specs.All.{Names, text_of, longest, Ground, file_at}
use Rattle.file_store.specs.All.{Drive, or_next}
use Rattle.faults.specs.declared.faults.Fault.{Fault}
use Rattle.faults.specs.declared.faults.Trouble.{Trouble}
use Rattle.faults.specs.declared.faults.Fault.TheVariants.{Damaged, TooLarge}
use Rattle.git_objects.specs.declared.ids.Id.{Id}
use Rattle.repository.specs.All.{id_in, head_of, repo_head, branch_place, tip_place, large}
use Rattle.acts.specs.All.{NoFault, Reads}
use Rattle.ref_store.specs.Forms.{IsNamed, branch_of, head_given}
use Rattle.ref_store.specs.declared.heads.Head.{Head}
use Rattle.ref_store.specs.declared.heads.Head.TheVariants.{Branch, Detached}

-- What a file's text gives; an absent file gives nothing.
abbrev pub given : {A : Type 0} → (List ℕ → Option A) → Option (List ℕ) → Option A
given form None = None
given form (Some text) = form text

-- The head that HEAD names, none where it is absent or has neither form.
abbrev pub head_at : Names → Ground → Option Head
head_at repo g = given head_given (file_at g (repo_head repo))

-- The id that a branch's file names, none where it is absent or not in form.
abbrev pub branch_id : Names → List ℕ → Ground → Option (List ℕ)
branch_id repo name g = given id_in (file_at g (branch_place repo name))

-- The refusal of a file whose place is longer than places are.
abbrev pub long_place : Names → Option Fault
long_place place = if nat_lt longest (length (text_of place)) then large place else None

-- The refusal of a file that doesn't give what it should.
abbrev pub damaged_unless : {A : Type 0} → Names → Option A → Option Fault
damaged_unless place None = Some (Damaged place)
damaged_unless place (Some a) = None

-- Why HEAD isn't read: its place is too long, or it is absent or has neither form.
abbrev pub head_fault : Names → Ground → Option Fault
head_fault repo g =
    or_next (long_place (repo_head repo)) (damaged_unless (repo_head repo) (head_at repo g))

-- The same of a branch's file.
abbrev pub branch_fault : Names → List ℕ → Ground → Option Fault
branch_fault repo name g =
    or_next (long_place (branch_place repo name))
    (damaged_unless (branch_place repo name) (branch_id repo name g))

-- The refusal of the file to which a head leads; a detached one leads to none.
abbrev pub lead_fault : Names → Ground → Option Head → Option Fault
lead_fault repo g (Some (Branch name)) = branch_fault repo name g
lead_fault repo g (Some (Detached id)) = None
lead_fault repo g None = None

-- Why the tip isn't read: HEAD, then its branch.
abbrev pub tip_fault : Names → Ground → Option Fault
tip_fault repo g = or_next (head_fault repo g) (lead_fault repo g (head_at repo g))

-- HEAD names this head.
abbrev pub IsHeadAt : Names → Ground → Head → Type 0
IsHeadAt repo g head = (head_fault repo g ≡ None) × (head_at repo g ≡ Some head)

-- HEAD leads to this commit.
abbrev pub IsTipAt : Names → Ground → Id → Type 0
IsTipAt repo g id =
    (tip_fault repo g ≡ None) × (option_map (λ head. head.id) (head_of g repo) ≡ Some id.0)

-- A place whose text is longer than this, with its text and its length.
abbrev pub IsOver : ℕ → Names → List ℕ → ℕ → Type 0
IsOver limit place path size =
    (path ≡ text_of place) × (size ≡ length (text_of place)) × (limit < length (text_of place))

-- The place of HEAD, or of a branch.
abbrev pub IsTipPlace : Names → Names → Type 0
IsTipPlace repo place =
    (branch : Option (List ℕ)) × IsNamed branch × (place ≡ tip_place repo branch)

-- The faults that reading HEAD may hand on, whatever the files tell: HEAD's place.
abbrev pub MayReadHead : Names → Fault → Type 0
MayReadHead repo (Damaged place) = place ≡ repo_head repo
MayReadHead repo (TooLarge path size) = IsOver longest (repo_head repo) path size
MayReadHead repo fault = ⊥

-- The faults that reading the tip may hand on: HEAD's place, or that of a branch.
abbrev pub MayReadTip : Names → Fault → Type 0
MayReadTip repo (Damaged place) = IsTipPlace repo place
MayReadTip repo (TooLarge path size) =
    (place : Names) × IsTipPlace repo place × IsOver longest place path size
MayReadTip repo fault = ⊥

-- How a reading of HEAD ends.
abbrev pub HeadReads : Bool → Names → Drive → Drive → Result Head Trouble → Type 0
HeadReads tells repo old new result =
    Reads (λ fault. MayReadHead repo fault) tells (λ g head. IsHeadAt repo g head)
    (λ g fault. head_fault repo g ≡ Some fault) old new result

-- How a reading of the tip ends.
abbrev pub TipReads : Bool → Names → Drive → Drive → Result Id Trouble → Type 0
TipReads tells repo old new result =
    Reads (λ fault. MayReadTip repo fault) tells (λ g id. IsTipAt repo g id)
    (λ g fault. tip_fault repo g ≡ Some fault) old new result

-- How a reading of the file of a branch ends.
abbrev pub BranchReads : Bool → Names → List ℕ → Drive → Drive → Result Id Trouble → Type 0
BranchReads tells repo name old new result =
    Reads (λ fault. MayReadTip repo fault) tells
    (λ g id. (branch_fault repo name g ≡ None) × (branch_id repo name g ≡ Some id.0))
    (λ g fault. branch_fault repo name g ≡ Some fault) old new result

-- How a reading of a file ends that may give something, and refuses nothing.
abbrev pub FileReads : {A B : Type 0} → (A → B) → (List ℕ → Option B) → Bool → Names → Drive
    → Drive → Result (Option A) Trouble → Type 0
FileReads view form tells place old new result =
    Reads (λ fault. NoFault fault) tells
    (λ g found. option_map view found ≡ given form (file_at g place)) (λ g fault. ⊥) old new result

-- The same of HEAD.
abbrev pub GivesHead : Bool → Names → Drive → Drive → Result (Option Head) Trouble → Type 0
GivesHead tells place old new result =
    FileReads (λ head. head) head_given tells place old new result

-- The same of a branch's file.
abbrev pub GivesId : Bool → Names → Drive → Drive → Result (Option Id) Trouble → Type 0
GivesId tells place old new result = FileReads (λ id. id.0) id_in tells place old new result

-- The branch of a head that was found, none where it is detached.
abbrev pub branch_by : Option Head → Option (List ℕ)
branch_by None = None
branch_by (Some head) = branch_of head
