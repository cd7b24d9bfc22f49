-- Which contents a repository keeps, and why one isn't read.
use Rattle.std.specs.Prelude.{◌≡◌, ◌⊎◌, ◌==◌, ◌<◌, ℕ, Bool, if◌then◌else◌, List, length, Option}
use Rattle.std.specs.Prelude.{Some, None, Vec, Result}
use Rattle.std.specs.declared.alloc.Global.{Global}
use Rattle.places.specs.All.{Names, text_of, Ground, file_at, stands}
use Rattle.file_store.specs.All.{Drive, or_next}
use Rattle.faults.specs.declared.faults.Fault.{Fault}
use Rattle.faults.specs.declared.faults.Trouble.{Trouble}
use Rattle.faults.specs.declared.faults.Fault.TheVariants.{TooLarge}
use Rattle.annex_keys.specs.All.{Matches, PlainKey}
use Rattle.acts.specs.All.{Reads}
use Rattle.annex_store.specs.Layout.{content_place}
use Rattle.annex_store.specs.Places.{IsLong, long_place, over_fault}

-- The most bytes of a content that is read.
abbrev pub content_limit : ℕ
content_limit = 67108864

-- The bytes of a file are those of the key's content; or no such bytes stand there.
abbrev pub IsContentIn : PlainKey → Option (List ℕ) → Option (List ℕ) → Type 0
IsContentIn key file (Some bytes) = (file ≡ Some bytes) × Matches key bytes
IsContentIn key file None = (bytes : List ℕ) → file ≡ Some bytes → Matches key bytes → ⊥

-- The content of a key that a repository keeps: the bytes of its file, where they match the key.
abbrev pub IsContent : Names → PlainKey → Ground → Option (List ℕ) → Type 0
IsContent repo key g found = IsContentIn key (file_at g (content_place repo key)) found

-- The refusal of a content's file for its size. One of another size than the key's isn't read, and
-- so not refused.
abbrev pub size_fault : Names → PlainKey → Option (List ℕ) → Option Fault
size_fault place key None = None
size_fault place key (Some bytes) =
    if length bytes == key.size then over_fault place content_limit (length bytes) else None

-- Why no content is read: its place is too long, or its file.
abbrev pub content_fault : Names → PlainKey → Ground → Option Fault
content_fault repo key g =
    or_next (long_place (content_place repo key))
    (size_fault (content_place repo key) key (file_at g (content_place repo key)))

-- The bytes of a content that was found.
abbrev pub bytes_of : Option (Vec ℕ Global) → Option (List ℕ)
bytes_of None = None
bytes_of (Some found) = Some found.items

-- Nothing is refused, and what is given is the content of the key, if one is kept.
abbrev pub IsRead : Names → PlainKey → Ground → Option (Vec ℕ Global) → Type 0
IsRead repo key g found =
    (content_fault repo key g ≡ None) × IsContent repo key g (bytes_of found)

-- What is given matches its key, whatever the files tell.
abbrev pub MatchesFound : PlainKey → Option (Vec ℕ Global) → Type 0
MatchesFound key None = Unit {0}
MatchesFound key (Some found) = Matches key found.items

-- The faults with which a look for a content may be refused, whatever the files tell.
abbrev pub MayLook : Names → PlainKey → Fault → Type 0
MayLook repo key (TooLarge path size) = IsLong (content_place repo key) path size
MayLook repo key fault = ⊥

-- The file of a content has the key's size, which is over the limit.
abbrev pub IsLargeContent : Names → PlainKey → List ℕ → ℕ → Type 0
IsLargeContent place key path size =
    (path ≡ text_of place) × (size ≡ key.size) × (content_limit < size)

-- The same of the file at a place.
abbrev pub IsLargeFile : Names → PlainKey → Fault → Type 0
IsLargeFile place key (TooLarge path size) = IsLargeContent place key path size
IsLargeFile place key fault = ⊥

-- The faults with which the reading of a content may be refused, whatever the files tell.
abbrev pub MayRead : Names → PlainKey → Fault → Type 0
MayRead repo key (TooLarge path size) =
    IsLong (content_place repo key) path size
    ⊎ IsLargeContent (content_place repo key) key path size
MayRead repo key fault = ⊥

-- How a look for a content ends.
abbrev pub LookReads : Bool → Names → PlainKey → Drive → Drive → Result Bool Trouble → Type 0
LookReads tells repo key old new result =
    Reads (λ fault. MayLook repo key fault) tells
    (λ g there. (long_place (content_place repo key) ≡ None)
    × (there ≡ stands g (content_place repo key)))
    (λ g fault. long_place (content_place repo key) ≡ Some fault) old new result

-- How the reading of a content ends.
abbrev pub ContentReads : Bool → Names → PlainKey → Drive → Drive
    → Result (Option (Vec ℕ Global)) Trouble → Type 0
ContentReads tells repo key old new result =
    Reads (λ fault. MayRead repo key fault) tells (λ g found. IsRead repo key g found)
    (λ g fault. content_fault repo key g ≡ Some fault) old new result

-- How the reading of a content's file at its place ends.
abbrev pub FileReads : Bool → Names → PlainKey → Drive → Drive
    → Result (Option (Vec ℕ Global)) Trouble → Type 0
FileReads tells place key old new result =
    Reads (λ fault. IsLargeFile place key fault) tells
    (λ g found. (size_fault place key (file_at g place) ≡ None)
    × IsContentIn key (file_at g place) (bytes_of found))
    (λ g fault. size_fault place key (file_at g place) ≡ Some fault) old new result
