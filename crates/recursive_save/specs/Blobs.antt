-- How the new blobs of a save are read.
use Rattle.std.specs.Prelude.{◌≡◌, ◌≤◌, ◌<◌, ◌+◌, ℕ, Bool, true, IsTrue, List, [], ◌∷◌, ◌++◌}
use Rattle.std.specs.Prelude.{length, map, option_map, Option, Some, None, Vec, Result, Ok, Err}
use Rattle.std.specs.declared.alloc.Global.{Global}
use Rattle.std.specs.List.{AllByRecursion}
use Rattle.places.specs.All.{Names, joined, is_text, names_of, Ground, file_at}
use Rattle.file_store.specs.All.{Drive, present}
use Rattle.faults.specs.declared.faults.Fault.{Fault}
use Rattle.faults.specs.declared.faults.Trouble.{Trouble}
use Rattle.faults.specs.declared.faults.Trouble.TheVariants.{Refused, Device, NoMemory}
use Rattle.faults.specs.declared.faults.Fault.TheVariants.{TooLarge, Dirty}
use Rattle.git_objects.specs.All.{oid}
use Rattle.git_objects.specs.declared.objects.ObjKind.TheVariants.{Blob}
use Rattle.object_store.specs.declared.objects.NewObject.{NewObject}
use Rattle.kept_files.specs.All.{git_file_limit, new_blob}
use Rattle.kept_files.specs.declared.kept.Kept.{Kept}
use Rattle.kept_files.specs.declared.kept.Kept.TheVariants.{Same, InGit, Pointer, Content}
use Rattle.tree_status.specs.All.{work_of}
use Rattle.tree_status.specs.declared.found.WorkingFile.{WorkingFile}
use Rattle.acts.specs.All.{Reads}
use Rattle.recursive_save.specs.Saving.{blob_of, blobs_in, blobs_limit, sum_fault}

-- A working file that git keeps is on a ground as it was found: at a place, with its blob, and not
-- too long.
pub record IsThere (root : Names) (g : Ground) (file : WorkingFile) : Type 0 where
  pub place : is_text (joined root file.path) ≡ true
  pub stands : file_at g (root ++ names_of file.path) ≡ Some (work_of root g file.path).1
  pub same : file.id.0 ≡ oid Blob (work_of root g file.path).1
  pub short : length (work_of root g file.path).1 ≤ git_file_limit

-- The faults of reading a file again: with it the bytes are too many, or it isn't as it was found.
abbrev pub MayReadBlob : Bool → Names → Ground → WorkingFile → Fault → Type 0
MayReadBlob tells root g file (TooLarge path size) = (path ≡ file.path) × (blobs_limit < size)
MayReadBlob tells root g file (Dirty path) = IsTrue tells → IsThere root g file → ⊥
MayReadBlob tells root g file fault = ⊥

-- The refusal of a file with which the bytes are too many, after so many.
abbrev pub IsBeyondSum : Names → ℕ → WorkingFile → Ground → Fault → Type 0
IsBeyondSum root before file g fault =
    IsThere root g file → (blobs_limit < before + length (work_of root g file.path).1)
    × (fault ≡ TooLarge file.path (before + length (work_of root g file.path).1))

-- How the reading of a file's blob ends, after so many bytes.
abbrev pub BlobReads : Bool → Names → WorkingFile → ℕ → Drive → Drive
    → Result (Vec ℕ Global) Trouble → Type 0
BlobReads tells root file before old new result =
    Reads (λ fault. MayReadBlob tells root (present old) file fault) tells
    (λ g bytes. IsThere root g file → bytes.items ≡ (work_of root g file.path).1)
    (λ g fault. IsBeyondSum root before file g fault) old new result

-- A working file is on a ground as it was found, where git gets its bytes.
abbrev pub IsThereBy : Kept → Names → Ground → WorkingFile → Type 0
IsThereBy (Same is_content) root g file = Unit {0}
IsThereBy InGit root g file = IsThere root g file
IsThereBy (Pointer text) root g file = Unit {0}
IsThereBy (Content text own) root g file = Unit {0}

-- Some files are on a ground as they were found, where git gets their bytes.
abbrev pub AreThere : Names → Ground → List WorkingFile → Type 0
AreThere root g files = AllByRecursion (λ file. IsThereBy file.kept root g file) files

-- The refusal of a text with which the bytes are too many, by a file's path and their sum.
abbrev pub IsBeyondText : List ℕ → ℕ → List ℕ → Trouble → Type 0
IsBeyondText path before text (Refused fault) =
    (blobs_limit < before + length text) × (fault ≡ TooLarge path (before + length text))
IsBeyondText path before text NoMemory = Unit {0}
IsBeyondText path before text Device = ⊥

-- How the making of a pointer's blob ends, after so many bytes.
abbrev pub PointerBlobs : WorkingFile → List ℕ → ℕ → Result (Vec ℕ Global) Trouble → Type 0
PointerBlobs file text before (Ok bytes) = bytes.items ≡ text
PointerBlobs file text before (Err trouble) = IsBeyondText file.path before text trouble

-- The bytes of a blob that was found.
abbrev pub items_of : Option (Vec ℕ Global) → Option (List ℕ)
items_of found = option_map (λ bytes. bytes.items) found

-- The refusal of a file with whose blob, if it has one, the bytes are too many.
abbrev pub IsBeyondBlob : Option (List ℕ) → ℕ → WorkingFile → Fault → Type 0
IsBeyondBlob None before file fault = ⊥
IsBeyondBlob (Some body) before file fault =
    (blobs_limit < before + length body) × (fault ≡ TooLarge file.path (before + length body))

-- The faults of reading files again: the bytes are too many, or one isn't as it was found.
abbrev pub MayReadBlobs : Bool → Names → Ground → List WorkingFile → Fault → Type 0
MayReadBlobs tells root g files (TooLarge path size) = blobs_limit < size
MayReadBlobs tells root g files (Dirty path) = IsTrue tells → AreThere root g files → ⊥
MayReadBlobs tells root g files fault = ⊥

-- How the making of the blob that git gets of a file ends, after so many bytes.
abbrev pub NewBlobReads : Bool → Names → WorkingFile → ℕ → Drive → Drive
    → Result (Option (Vec ℕ Global)) Trouble → Type 0
NewBlobReads tells root file before old new result =
    Reads (λ fault. MayReadBlobs tells root (present old) (file ∷ []) fault) tells
    (λ g found. IsThereBy file.kept root g file
    → items_of found ≡ new_blob file.kept (work_of root g file.path).1)
    (λ g fault. IsThereBy file.kept root g file
    → IsBeyondBlob (new_blob file.kept (work_of root g file.path).1) before file fault)
    old new result

-- The blobs of files that are there, whose bytes aren't too many.
pub record AreBlobs (root : Names) (g : Ground) (files : List WorkingFile)
    (objects : List NewObject) : Type 0 where
  pub few : sum_fault 0 (blobs_in root g files) ≡ None
  pub same : objects ≡ map blob_of (blobs_in root g files)

-- The refusal of the first file with which the bytes are too many.
abbrev pub IsBeyondSums : Names → List WorkingFile → Ground → Fault → Type 0
IsBeyondSums root files g fault =
    AreThere root g files → sum_fault 0 (blobs_in root g files) ≡ Some fault

-- How the reading of files' blobs ends.
abbrev pub BlobsRead : Bool → Names → List WorkingFile → Drive → Drive
    → Result (Vec NewObject Global) Trouble → Type 0
BlobsRead tells root files old new result =
    Reads (λ fault. MayReadBlobs tells root (present old) files fault) tells
    (λ g objects. AreThere root g files → AreBlobs root g files objects.items)
    (λ g fault. IsBeyondSums root files g fault) old new result
