-- Which objects are read, and why one isn't.
use Rattle.std.specs.Prelude.{◌≡◌, ◌⊎◌, ◌<◌, ◌≤◌, ℕ, Bool, true, false, List, length, Option, None}
use Rattle.std.specs.Prelude.{Some, Vec, nat_lt, option_map, if◌then◌else◌}
use Rattle.std.specs.declared.alloc.Global.{Global}
use Rattle.places.specs.All.{Names, text_of, Ground, file_at}
use Rattle.file_store.specs.All.{or_next}
use Rattle.faults.specs.declared.faults.Fault.{Fault}
use Rattle.faults.specs.declared.faults.Fault.TheVariants.{Damaged, Missing, BadTree, BadCommit}
use Rattle.faults.specs.declared.faults.Fault.TheVariants.{TooLarge}
use Rattle.git_objects.specs.All.{Fields, fields_of, IsCommitText, IsBadCommitAt, IsTreeText}
use Rattle.git_objects.specs.All.{IsBadAt, oid, Object}
use Rattle.git_objects.specs.declared.commits.Commit.{Commit}
use Rattle.git_objects.specs.declared.entries.TreeEntry.{TreeEntry}
use Rattle.git_objects.specs.declared.objects.ObjKind.{ObjKind}
use Rattle.git_objects.specs.declared.trees.Tree.{Tree}
use Rattle.git_objects.specs.declared.objects.ObjKind.TheVariants.{Blob as BlobKind}
use Rattle.git_objects.specs.declared.objects.ObjKind.TheVariants.{Tree as TreeKind}
use Rattle.git_objects.specs.declared.objects.ObjKind.TheVariants.{Commit as CommitKind}
use Rattle.git_objects.specs.declared.objects.ObjKind.TheVariants.{Tag as TagKind}
use Rattle.repository.specs.All.{IsHeld, object_of, held_at, object_place, object_limit}
use Rattle.repository.specs.All.{object_file_limit, object_body_limit, large}

-- The tree that is held under an id.
pub record IsTreeAt (repo : Names) (id : List ℕ) (g : Ground) (entries : List TreeEntry)
    : Type 0 where
  pub body : List ℕ
  pub held : held_at g repo id ≡ Some (record { kind = TreeKind; body = body })
  pub text : IsTreeText body entries

-- The commit that is held under an id.
pub record IsCommitAt (repo : Names) (id : List ℕ) (g : Ground) (fields : Fields) : Type 0 where
  pub body : List ℕ
  pub held : held_at g repo id ≡ Some (record { kind = CommitKind; body = body })
  pub text : IsCommitText body fields

-- A tree with this id, wherever it may be held.
pub record IsTreeWithId (id : List ℕ) (entries : List TreeEntry) : Type 0 where
  pub body : List ℕ
  pub text : IsTreeText body entries
  pub named : oid TreeKind body ≡ id

-- A commit with this id, wherever it may be held.
pub record IsCommitWithId (id : List ℕ) (fields : Fields) : Type 0 where
  pub body : List ℕ
  pub text : IsCommitText body fields
  pub named : oid CommitKind body ≡ id

-- An object that a call read.
abbrev pub object_seen : ObjKind × Vec ℕ Global → Object
object_seen found = record { kind = found.0; body = found.1.items }

-- The refusal of an object's file by a length.
abbrev pub large_file : Names → ℕ → Option Fault
large_file place size = Some (TooLarge (text_of place) size)

-- The refusal of what an object's file has: no object with its id, or one with too long a body.
abbrev pub body_fault : Names → Option Object → Option Fault
body_fault place None = Some (Damaged place)
body_fault place (Some object) =
    if nat_lt object_body_limit (length object.body) then large_file place (length object.body)
    else None

-- The refusal of a file that is too long to be read.
abbrev pub size_fault : Names → Option (List ℕ) → Option Fault
size_fault place None = None
size_fault place (Some text) =
    if nat_lt object_file_limit (length text) then large_file place (length text) else None

-- The refusal of the file at an object's place: for its length, and then for what it has.
abbrev pub file_fault : Names → List ℕ → Option (List ℕ) → Option Fault
file_fault place id None = None
file_fault place id (Some text) =
    or_next (size_fault place (Some text)) (body_fault place (object_of id (Some text)))

-- Why an object isn't read. Where no file stands, there is no fault.
unfoldable pub get_fault : Names → List ℕ → Ground → Option Fault
get_fault repo id g =
    if nat_lt object_limit (length (text_of repo)) then large repo
    else file_fault (object_place repo id) id (file_at g (object_place repo id))

-- What is held, and isn't past a limit, isn't refused.
abbrev pub HeldIsRead : Type 0
HeldIsRead =
    (g : Ground) (repo : Names) (id : List ℕ) (kind : ObjKind) (body : List ℕ)
    → IsHeld g repo id kind body → length (text_of repo) ≤ object_limit
    → length body ≤ object_body_limit → get_fault repo id g ≡ None

-- The object that is held under an id, if any, is read.
abbrev pub IsGot : Names → List ℕ → Ground → Option (ObjKind × Vec ℕ Global) → Type 0
IsGot repo id g found =
    (get_fault repo id g ≡ None) × (option_map object_seen found ≡ held_at g repo id)

-- Whether two kinds are the same.
abbrev pub is_kind : ObjKind → ObjKind → Bool
is_kind BlobKind BlobKind = true
is_kind TreeKind TreeKind = true
is_kind CommitKind CommitKind = true
is_kind TagKind TagKind = true
is_kind one other = false

-- The refusal where no object of a kind is held.
abbrev pub missing_fault : List ℕ → ObjKind → Option Object → Option Fault
missing_fault id kind None = Some (Missing id)
missing_fault id kind (Some object) = if is_kind object.kind kind then None else Some (Missing id)

-- Why no object of a kind is read.
abbrev pub kind_fault : Names → List ℕ → ObjKind → Ground → Option Fault
kind_fault repo id kind g =
    or_next (get_fault repo id g) (missing_fault id kind (held_at g repo id))

-- An object of a kind is read, by its body.
abbrev pub HasBody : Names → List ℕ → ObjKind → Ground → Vec ℕ Global → Type 0
HasBody repo id kind g body =
    (get_fault repo id g ≡ None)
    × (held_at g repo id ≡ Some (record { kind = kind; body = body.items }))

-- The tree that is held under an id is read.
abbrev pub HasTree : Names → List ℕ → Ground → Tree → Type 0
HasTree repo id g tree = (get_fault repo id g ≡ None) × IsTreeAt repo id g tree.entries.items

-- What is held as a tree is no tree's body, from this byte on.
pub record IsBadTreeHeld (repo : Names) (id : List ℕ) (g : Ground) (at : ℕ) : Type 0 where
  pub body : List ℕ
  pub whole : get_fault repo id g ≡ None
  pub held : held_at g repo id ≡ Some (record { kind = TreeKind; body = body })
  pub bad : IsBadAt body at

-- Why no tree is read under an id.
abbrev pub IsTreeFault : Names → List ℕ → Ground → Fault → Type 0
IsTreeFault repo id g (BadTree other at) = (other ≡ id) × IsBadTreeHeld repo id g at
IsTreeFault repo id g fault = kind_fault repo id TreeKind g ≡ Some fault

-- The commit that is held under an id is read.
abbrev pub HasCommit : Names → List ℕ → Ground → Commit → Type 0
HasCommit repo id g commit =
    (get_fault repo id g ≡ None) × IsCommitAt repo id g (fields_of commit)

-- What is held as a commit is no commit's body, from this byte on.
pub record IsBadCommitHeld (repo : Names) (id : List ℕ) (g : Ground) (at : ℕ) : Type 0 where
  pub body : List ℕ
  pub whole : get_fault repo id g ≡ None
  pub held : held_at g repo id ≡ Some (record { kind = CommitKind; body = body })
  pub bad : IsBadCommitAt body at

-- Why no commit is read under an id.
abbrev pub IsCommitFault : Names → List ℕ → Ground → Fault → Type 0
IsCommitFault repo id g (BadCommit other at) = (other ≡ id) × IsBadCommitHeld repo id g at
IsCommitFault repo id g fault = kind_fault repo id CommitKind g ≡ Some fault

-- An object's file or its body is too long to be read.
abbrev pub IsLargeObject : Names → List ℕ → List ℕ → ℕ → Type 0
IsLargeObject repo id path size =
    (path ≡ text_of (object_place repo id)) × (object_body_limit < size)

-- A repository's place is too long for objects to have places.
abbrev pub HasNoPlaces : Names → List ℕ → ℕ → Type 0
HasNoPlaces repo path size =
    (path ≡ text_of repo) × (size ≡ length (text_of repo)) × (object_limit < length (text_of repo))

-- The faults with which an object may be refused, whatever the files tell.
abbrev pub MayGet : Names → List ℕ → Fault → Type 0
MayGet repo id (Damaged place) = place ≡ object_place repo id
MayGet repo id (TooLarge path size) =
    IsLargeObject repo id path size ⊎ HasNoPlaces repo path size
MayGet repo id fault = ⊥

-- The same of an object of a kind.
abbrev pub MayGetBody : Names → List ℕ → Fault → Type 0
MayGetBody repo id (Missing other) = other ≡ id
MayGetBody repo id fault = MayGet repo id fault

-- The same of a tree.
abbrev pub MayReadTree : Names → List ℕ → Fault → Type 0
MayReadTree repo id (BadTree other at) = other ≡ id
MayReadTree repo id fault = MayGetBody repo id fault

-- The same of a commit.
abbrev pub MayReadCommit : Names → List ℕ → Fault → Type 0
MayReadCommit repo id (BadCommit other at) = other ≡ id
MayReadCommit repo id fault = MayGetBody repo id fault
