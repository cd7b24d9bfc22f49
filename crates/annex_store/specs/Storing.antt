-- How the files of many contents are stored.
use Rattle.std.specs.Prelude.{◌≡◌, ℕ, Bool, List, [], ◌∷◌, Option, Some, None, Vec, Result, Ok, Err}
use Rattle.std.specs.Prelude.{IsTrue}
use Rattle.std.specs.Borrow.{Bor}
use Rattle.std.specs.declared.alloc.Global.{Global}
use Rattle.places.specs.All.{Names, file_at}
use Rattle.file_store.specs.All.{Drive, StageEnds, present}
use Rattle.file_store.specs.declared.errors.FileErr.TheVariants.{Blocked as FileBlocked}
use Rattle.file_store.specs.declared.replacing.Move.{Move}
use Rattle.faults.specs.declared.faults.Fault.{Fault}
use Rattle.faults.specs.declared.faults.Fault.TheVariants.{Blocked, Dirty}
use Rattle.faults.specs.declared.faults.Trouble.{Trouble}
use Rattle.faults.specs.declared.faults.Trouble.TheVariants.{Refused, Device, NoMemory}
use Rattle.annex_keys.specs.All.{PlainKey}
use Rattle.repository.specs.All.{tmp_place}
use Rattle.acts.specs.All.{NoFault, Reads}
use Rattle.annex_store.specs.Contents.{bytes_of}
use Rattle.annex_store.specs.KeepingAll.{content_file}
use Rattle.annex_store.specs.Layout.{content_place, log_place}
use Rattle.annex_store.specs.Members.{Among, Each, content_in, found_in, shown, unkept}
use Rattle.annex_store.specs.Places.{long_place}
use Rattle.annex_store.specs.declared.members.NewContent.{NewContent}

-- How the reading of a file ends that may be a key's content.
abbrev pub MatchReads : Bool → Names → PlainKey → Drive → Drive
    → Result (Option (Vec ℕ Global)) Trouble → Type 0
MatchReads tells place key old new result =
    Reads (λ fault. NoFault fault) tells
    (λ g found. bytes_of found ≡ content_in key (file_at g place))
    (λ g fault. ⊥) old new result

-- The places of their logs are as short as places are, and so are those of their contents.
abbrev pub AreShort : Names → List NewContent → Type 0
AreShort repo list = Each (λ x. long_place (log_place repo x.key) ≡ None) list

-- How the looking for contents that don't stand ends.
abbrev pub UnkeptRead : Bool → Names → List NewContent → Drive → Drive
    → Result (Vec (Bor NewContent) Global) Trouble → Type 0
UnkeptRead tells repo list old new result =
    Reads (λ fault. NoFault fault) tells (λ g found. shown found.items ≡ unkept repo list g)
    (λ g fault. ⊥) old new result

-- How the staging of one content ends: it is staged, and where it goes is given; or its source
-- doesn't have it; or its temporary place is shut.
abbrev pub StagedAs : Bool → Names → ℕ → NewContent → Drive → Drive → Result Move Trouble → Type 0
StagedAs tells repo number x old new (Ok given) =
    (given ≡ record { tmp = tmp_place repo number; place = content_place repo x.key })
    × ((bytes : List ℕ) × (IsTrue tells → found_in x (present old) ≡ Some bytes)
    × StageEnds tells (content_file repo number x bytes ∷ []) old new (Ok tt))
StagedAs tells repo number x old new (Err (Refused (Dirty path))) =
    (path ≡ x.path) × (IsTrue tells → found_in x (present old) ≡ None)
StagedAs tells repo number x old new (Err (Refused (Blocked at))) =
    IsTrue tells
    × ((bytes : List ℕ) × (found_in x (present old) ≡ Some bytes)
    × StageEnds tells (content_file repo number x bytes ∷ []) old new (Err (FileBlocked at)))
StagedAs tells repo number x old new (Err (Refused fault)) = ⊥
StagedAs tells repo number x old new (Err Device) = Unit {0}
StagedAs tells repo number x old new (Err NoMemory) = Unit {0}

-- The faults that the storing may hand on, whatever the files tell: of a member whose source
-- doesn't have it, or a file that is told to be in the way.
abbrev pub MayStore : Bool → List NewContent → Fault → Type 0
MayStore tells list (Dirty path) = Among (λ x. path ≡ x.path) list
MayStore tells list (Blocked at) = IsTrue tells
MayStore tells list fault = ⊥
