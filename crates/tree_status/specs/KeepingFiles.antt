-- The working files as they are kept: each by its path and its bytes.
use Rattle.std.specs.Prelude.{◌≡◌, ◌≤◌, ℕ, Bool, true, false, not, ◌&&◌, nat_le, IsTrue, List}
use Rattle.std.specs.Prelude.{[], ◌∷◌, ◌++◌, length, map, Option, Some, None, Vec, Result}
use Rattle.std.specs.declared.alloc.Global.{Global}
use Rattle.std.specs.List.{AllByRecursion}
use Rattle.places.specs.All.{Names, joined, is_text, text_of, names_of, longest, Ground, file_at}
use Rattle.places.specs.All.{stands}
use Rattle.faults.specs.declared.faults.Fault.{Fault}
use Rattle.faults.specs.declared.faults.Fault.TheVariants.{Dirty}
use Rattle.faults.specs.declared.faults.Trouble.{Trouble}
use Rattle.file_store.specs.All.{Drive, present, bytes_at}
use Rattle.acts.specs.All.{Reads}
use Rattle.annex_keys.specs.All.{PlainKey}
use Rattle.annex_store.specs.All.{content_place}
use Rattle.kept_files.specs.All.{leaf_id}
use Rattle.kept_files.specs.declared.kept.Kept.{Kept}
use Rattle.kept_files.specs.declared.kept.Kept.TheVariants.{Same, InGit, Pointer, Content}
use Rattle.repository.specs.All.{repo_of}
use Rattle.tree_status.specs.Keeping.{KeepBy, IsKeptBy, limit_by, old_blob, old_key}
use Rattle.tree_status.specs.Working.{WorkFile}
use Rattle.tree_status.specs.declared.found.WorkingFile.{WorkingFile}

-- Whether a content file of a key stands in a repository. None does where its place would be longer
-- than places are.
abbrev pub has_content : Names → Ground → PlainKey → Bool
has_content repo g key =
    nat_le (length (text_of (content_place repo key))) longest && stands g (content_place repo key)

-- Whether a repository lacks the content of the old leaf's key: the file's bytes are that content,
-- and no content file stands.
abbrev pub lacks_content : Names → Ground → Option PlainKey → Kept → Bool
lacks_content repo g None kept = false
lacks_content repo g (Some key) (Same is_content) = is_content && not (has_content repo g key)
lacks_content repo g (Some key) InGit = false
lacks_content repo g (Some key) (Pointer text) = false
lacks_content repo g (Some key) (Content text own) = false

-- How a look for a lacked content ends. It is never refused.
abbrev pub LackReads : Bool → Names → Option PlainKey → Kept → Drive → Drive
    → Result Bool Trouble → Type 0
LackReads tells repo key kept old new result =
    Reads (λ _. ⊥) tells (λ g lacks. lacks ≡ lacks_content repo g key kept) (λ _ _. ⊥)
    old new result

-- A working file as it is kept: its path, how it is kept, the id of its new leaf's blob, and
-- whether the repository lacks the old leaf's content.
pub record IsKeptFile (root : Names) (g : Ground) (by : KeepBy) (work : WorkFile)
    (file : WorkingFile) : Type 0 where
  pub path : file.path ≡ work.0
  pub kept : IsKeptBy by work.0 work.1 file.kept
  pub id : leaf_id file.kept (old_blob by work.0) work.1 ≡ Some file.id.0
  pub lacks : file.lacks ≡ lacks_content (repo_of root) g (old_key by work.0) file.kept

-- The same of some files, one after the other.
abbrev pub AreKeptFiles : Names → Ground → KeepBy → List WorkFile → List WorkingFile → Type 0
AreKeptFiles root g by [] [] = Unit {0}
AreKeptFiles root g by [] (file ∷ files) = ⊥
AreKeptFiles root g by (work ∷ works) [] = ⊥
AreKeptFiles root g by (work ∷ works) (file ∷ files) =
    IsKeptFile root g by work file × AreKeptFiles root g by works files

-- What a ground has at the path of a working file.
abbrev pub work_of : Names → Ground → List ℕ → WorkFile
work_of root g path = (path, bytes_at g (root ++ names_of path))

-- A file stands at a path below a root, with no more bytes than it may have.
pub record IsThere (root : Names) (by : KeepBy) (g : Ground) (path : List ℕ) : Type 0 where
  pub place : is_text (joined root path) ≡ true
  pub stands : file_at g (root ++ names_of path) ≡ Some (work_of root g path).1
  pub short : length (work_of root g path).1 ≤ limit_by by path

-- The same of each of some paths.
abbrev pub AreThere : Names → KeepBy → Ground → List (List ℕ) → Type 0
AreThere root by g paths = AllByRecursion (IsThere root by g) paths

-- Reading a file is refused only where none stands as it was found.
abbrev pub MayKeepFile : Bool → Names → KeepBy → Ground → List ℕ → Fault → Type 0
MayKeepFile tells root by g path (Dirty at) =
    (at ≡ path) × (IsTrue tells → IsThere root by g path → ⊥)
MayKeepFile tells root by g path fault = ⊥

-- How the reading of a file's bytes ends.
abbrev pub BytesRead : Bool → Names → KeepBy → List ℕ → Drive → Drive
    → Result (Vec ℕ Global) Trouble → Type 0
BytesRead tells root by path old new result =
    Reads (λ fault. MayKeepFile tells root by (present old) path fault) tells
    (λ g bytes. IsThere root by g path → bytes.items ≡ (work_of root g path).1)
    (λ g fault. IsThere root by g path → ⊥) old new result

-- How a file is kept, once it is read.
abbrev pub FileKeeps : Bool → Names → KeepBy → List ℕ → Drive → Drive
    → Result WorkingFile Trouble → Type 0
FileKeeps tells root by path old new result =
    Reads (λ fault. MayKeepFile tells root by (present old) path fault) tells
    (λ g file. IsThere root by g path → IsKeptFile root g by (work_of root g path) file)
    (λ g fault. IsThere root by g path → ⊥) old new result

-- The faults of keeping files: one isn't there as it was found.
abbrev pub MayKeepFiles : Bool → Names → KeepBy → Ground → List (List ℕ) → Fault → Type 0
MayKeepFiles tells root by g paths (Dirty path) = IsTrue tells → AreThere root by g paths → ⊥
MayKeepFiles tells root by g paths fault = ⊥

-- How files are kept, once they are read.
abbrev pub FilesKeep : Bool → Names → KeepBy → List (List ℕ) → Drive → Drive
    → Result (Vec WorkingFile Global) Trouble → Type 0
FilesKeep tells root by paths old new result =
    Reads (λ fault. MayKeepFiles tells root by (present old) paths fault) tells
    (λ g list. AreThere root by g paths
    → AreKeptFiles root g by (map (work_of root g) paths) list.items)
    (λ g fault. AreThere root by g paths → ⊥) old new result

-- Of one ground, files are kept in one way.
abbrev pub KeptFilesAreOne : Type 0
KeptFilesAreOne =
    (root : Names) (g : Ground) (by : KeepBy) (works : List WorkFile)
    (one two : List WorkingFile) → AreKeptFiles root g by works one
    → AreKeptFiles root g by works two → one ≡ two
