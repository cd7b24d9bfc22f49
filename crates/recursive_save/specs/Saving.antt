-- What a save of a dataset does.
use Rattle.std.specs.Prelude.{◌≡◌, ◌⊎◌, ◌<◌, ℕ, ◌+◌, Bool, true, false, IsTrue, ◌&&◌, not, nat_lt}
use Rattle.std.specs.Prelude.{if◌then◌else◌, List, [], ◌∷◌, ◌++◌, length, map, Option, Some, None}
use Rattle.std.specs.Prelude.{Result, Ok, Err, bytes_eq, codes}
use Rattle.std.specs.List.{flat_map}
use Rattle.places.specs.All.{Names, text_of, Ground, file_at}
use Rattle.faults.specs.declared.lines.Line.{Line}
use Rattle.faults.specs.declared.faults.Fault.{Fault}
use Rattle.faults.specs.declared.faults.Fault.TheVariants.{BadLine, TooLarge, Collision, Damaged}
use Rattle.faults.specs.declared.faults.Fault.TheVariants.{UnsupportedMode, OddKind, Dirty, Missing}
use Rattle.faults.specs.declared.faults.Fault.TheVariants.{BadTree, BadCommit, Blocked, PathClash}
use Rattle.faults.specs.declared.faults.Fault.TheVariants.{BadLog, TimeFull}
use Rattle.file_store.specs.All.{or_next}
use Rattle.git_objects.specs.All.{oid, commit_text, person_of, Fields, IsCommitText}
use Rattle.git_objects.specs.declared.ids.Id.{Id}
use Rattle.git_objects.specs.declared.objects.ObjKind.TheVariants.{Blob, Commit}
use Rattle.annex_keys.specs.All.{PlainKey, key_text}
use Rattle.annex_store.specs.All.{IsKeepAll, MayReadLog, log_place}
use Rattle.annex_store.specs.declared.members.NewContent.{NewContent}
use Rattle.kept_files.specs.All.{new_blob}
use Rattle.index_store.specs.All.{HasIndex, keeps_index}
use Rattle.config_text.specs.All.{PlainConfig, config_in}
use Rattle.repository.specs.All.{repo_of, settings_place, object_place}
use Rattle.acts.specs.All.{Act, Step, still, Refuses, gives, says, unless, bind, each}
use Rattle.object_store.specs.All.{IsTooLong, object_text, puts_objects}
use Rattle.object_store.specs.declared.objects.NewObject.{NewObject}
use Rattle.ref_store.specs.All.{IsTipPlace, sets_tip}
use Rattle.snapshot.specs.All.{IsBuilt}
use Rattle.snapshot.specs.declared.entries.Entry.{Entry}
use Rattle.tree_status.specs.All.{HasPlace, IsOverToView, IsRead, IsUnread, KeepBy, WorkFile}
use Rattle.tree_status.specs.All.{added, is_changed, is_other, new_entries, work_of}
use Rattle.tree_status.specs.declared.found.WorkingFile.{WorkingFile}
use Rattle.recursive_save.specs.Contents.{IsKeepingOf}
use Rattle.recursive_save.specs.Lines.{change_lines}
use Rattle.recursive_save.specs.declared.wishes.SaveWish.{SaveWish}

-- How many bytes a configuration may have.
abbrev pub settings_limit : ℕ
settings_limit = 1048576

-- The refusal of a configuration's text that was read.
abbrev pub line_fault : Names → Result PlainConfig ℕ → Option Fault
line_fault place (Ok config) = None
line_fault place (Err line) = Some (BadLine place line)

-- The refusal of a configuration's file.
abbrev pub settings_in : Names → Option (List ℕ) → Option Fault
settings_in place None = Some (BadLine place 0)
settings_in place (Some text) =
    if nat_lt settings_limit (length text) then Some (TooLarge (text_of place) (length text))
    else line_fault place (config_in text)

-- Why the configuration of a dataset isn't read.
abbrev pub settings_fault : Names → Ground → Option Fault
settings_fault root g = settings_in (settings_place root) (file_at g (settings_place root))

-- How many bytes the new blobs of a save may have.
abbrev pub blobs_limit : ℕ
blobs_limit = 536870912

-- The refusal of the first of some blobs with which their bytes, and so many before them, are too
-- many, by its path and that sum.
abbrev pub sum_fault : ℕ → List WorkFile → Option Fault
sum_fault before [] = None
sum_fault before (file ∷ files) =
    if nat_lt blobs_limit (before + length file.1)
    then Some (TooLarge file.0 (before + length file.1))
    else sum_fault (before + length file.1) files

-- A blob with its path, or none.
abbrev pub blob_by : List ℕ → Option (List ℕ) → List WorkFile
blob_by path None = []
blob_by path (Some body) = (path, body) ∷ []

-- The blobs that git gets of working files, each with its path: the bytes that the file has, or the
-- text of its pointer; none where the old leaf stays.
abbrev pub blobs_in : Names → Ground → List WorkingFile → List WorkFile
blobs_in root g files =
    flat_map (λ file. blob_by file.path (new_blob file.kept (work_of root g file.path).1)) files

-- The blobs of the files that are new, or have another blob than they had.
abbrev pub new_blobs : Names → Ground → List Entry → List WorkingFile → List WorkFile
new_blobs root g old files = blobs_in root g (added old files)

-- Why nothing is saved: the configuration, or too many bytes of new blobs.
abbrev pub plan_fault : Names → Ground → List Entry → List WorkingFile → Option Fault
plan_fault root g old files =
    or_next (settings_fault root g) (sum_fault 0 (new_blobs root g old files))

-- One of some objects has the id of another object, and another text.
abbrev pub clash_with : List NewObject → NewObject → Option Fault
clash_with [] object = None
clash_with (one ∷ more) object =
    if bytes_eq (id_of one) (id_of object) && not (bytes_eq (object_text one) (object_text object))
    then Some (Collision (id_of object)) else clash_with more object
  where
    id_of : NewObject → List ℕ
    id_of new = oid new.kind new.body

-- The refusal of the first object that has the id of one before it, and another text.
abbrev pub clash_fault : List NewObject → List NewObject → Option Fault
clash_fault before [] = None
clash_fault before (object ∷ objects) =
    or_next (clash_with before object) (clash_fault (before ++ object ∷ []) objects)

-- What a save writes and says: its objects, the id of its commit, its lines.
pub record SavePlan : Type 0 where
  pub objects : List NewObject
  pub commit : List ℕ
  pub lines : List Line

-- The last line of a save, of the dataset itself.
abbrev pub dataset_line : List ℕ → Line
dataset_line status =
    record { action = codes "save"; status = status; path = codes "."; kind = codes "dataset" }

-- The lines of a save: those of the changes, and that of the dataset.
abbrev pub save_lines : List Entry → List WorkingFile → List ℕ → List Line
save_lines old files status = change_lines old files ++ dataset_line status ∷ []

-- The object of a blob, which is given with its path.
abbrev pub blob_of : WorkFile → NewObject
blob_of blob = record { kind = Blob; body = blob.1 }

-- The commit of a tree on a parent, by the configured person at the moment of the wish.
abbrev pub save_commit : PlainConfig → SaveWish → List ℕ → List ℕ → List ℕ
save_commit config wish tree parent =
    commit_text tree (record { 0 = parent } ∷ []) person person [] wish.message
  where
    person : List ℕ
    person = person_of config.name config.email wish.moment (codes "+0000")

-- A plan of the new snapshot: the blobs that are new, the trees, and the commit, whose body is one.
pub record IsSavePlan (root : Names) (wish : SaveWish) (g : Ground) (parent : List ℕ)
    (old : List Entry) (files : List WorkingFile) (plan : SavePlan) : Type 0 where
  pub settings : List ℕ
  pub config : PlainConfig
  pub tree : List ℕ
  pub trees : List NewObject
  pub stands : file_at g (settings_place root) ≡ Some settings
  pub configured : config_in settings ≡ Ok config
  pub built : IsBuilt (new_entries old files) tree trees
  pub objects : plan.objects ≡ map blob_of (new_blobs root g old files) ++ trees
      ++ record { kind = Commit; body = save_commit config wish tree parent } ∷ []
  pub commit : plan.commit ≡ oid Commit (save_commit config wish tree parent)
  pub fields : Fields
  pub text : IsCommitText (save_commit config wish tree parent) fields
  pub tree_is : fields.tree.0 ≡ tree
  pub parent_is : fields.parents ≡ record { 0 = parent } ∷ []
  pub lines : plan.lines ≡ save_lines old files (codes "ok")

-- Some lines, one after the other.
abbrev pub says_all : List Line → Step (Unit {0})
says_all lines = each says lines

-- The writing of a plan: its objects; the tip; the index, by this step; its lines.
abbrev pub writes : Names → Step (Unit {0}) → SavePlan → Step (Option Id)
writes root index plan =
    bind (puts_objects (repo_of root) plan.objects) (λ _.
    bind (sets_tip (repo_of root) plan.commit) (λ _.
    bind index (λ _.
    bind (says_all plan.lines) (λ _.
    gives (Some (record { 0 = plan.commit }))))))

-- An act that keeps these contents at a moment, and then writes a plan.
pub record IsWritten (root : Names) (uuid : List ℕ) (list : List NewContent) (moment : ℕ)
    (index : Step (Unit {0})) (plan : SavePlan) (g : Ground) (act : Act (Option Id))
    : Type 0 where
  pub keeps : Act (Unit {0})
  pub keep : IsKeepAll (repo_of root) uuid list moment g keeps
  pub is : act ≡ bind (λ _. keeps) (λ _. writes root index plan) g

-- A planned save: unless two of its objects collide, the contents are kept, and then the plan is
-- written.
unfoldable pub saves : Names → Step (Unit {0}) → SavePlan → Act (Unit {0}) → Step (Option Id)
saves root index plan keeps =
    bind (unless (λ g. clash_fault [] plan.objects)) (λ _.
    bind (λ _. keeps) (λ _. writes root index plan))

-- A save without a commit: the index is made that of HEAD's snapshot, and it says its lines.
unfoldable pub saves_lines : Step (Unit {0}) → List Line → Step (Option Id)
saves_lines index lines = bind index (λ _. bind (says_all lines) (λ _. gives None))

-- A save of what hasn't changed but for contents that were lacked: they are kept; there is no
-- commit.
unfoldable pub saves_contents : Step (Unit {0}) → List Line → Act (Unit {0}) → Step (Option Id)
saves_contents index lines keeps = bind (λ _. keeps) (λ _. saves_lines index lines)

-- THE SAVE of a dataset: refused for what it reads; nothing to save; refused for what it plans;
-- refused since two of its objects collide, whatever the logs say; only contents to keep; or
-- contents and a commit of the working files. Where it isn't refused, the index is that of the
-- dataset's snapshot at its end: it stays where it was that at the start, and is written if not.
pub data IsSave (root : Names) (wish : SaveWish) (g : Ground) : Act (Option Id) → Type 0 where
  unread : (fault : Fault) → IsUnread root wish.to_git g fault
      → IsSave root wish g (still (Refuses fault))
  clean : (parent : List ℕ) (by : KeepBy) (files : List WorkingFile)
      (indexed : Bool)
      → IsRead root wish.to_git g parent by files → is_changed by.old files ≡ false
      → HasIndex root by.old g indexed
      → IsSave root wish g
      (saves_lines (keeps_index indexed root by.old) (dataset_line (codes "notneeded") ∷ []) g)
  unplanned : (parent : List ℕ) (by : KeepBy) (files : List WorkingFile) (fault : Fault)
      → IsRead root wish.to_git g parent by files → is_changed by.old files ≡ true
      → plan_fault root g by.old files ≡ Some fault
      → IsSave root wish g (still (Refuses fault))
  clashing : (parent : List ℕ) (by : KeepBy) (files : List WorkingFile) (plan : SavePlan)
      (fault : Fault)
      → IsRead root wish.to_git g parent by files → is_other by.old files ≡ true
      → plan_fault root g by.old files ≡ None → IsSavePlan root wish g parent by.old files plan
      → clash_fault [] plan.objects ≡ Some fault
      → IsSave root wish g (still (Refuses fault))
  kept : (parent : List ℕ) (by : KeepBy) (files : List WorkingFile) (keeps : Act (Unit {0}))
      (indexed : Bool)
      → IsRead root wish.to_git g parent by files → is_changed by.old files ≡ true
      → is_other by.old files ≡ false → plan_fault root g by.old files ≡ None
      → IsKeepingOf root wish.moment g by files keeps → HasIndex root by.old g indexed
      → IsSave root wish g (saves_contents (keeps_index indexed root by.old)
      (save_lines by.old files (codes "notneeded")) keeps g)
  saved : (parent : List ℕ) (by : KeepBy) (files : List WorkingFile) (plan : SavePlan)
      (keeps : Act (Unit {0})) (indexed : Bool)
      → IsRead root wish.to_git g parent by files → is_other by.old files ≡ true
      → plan_fault root g by.old files ≡ None → IsSavePlan root wish g parent by.old files plan
      → IsKeepingOf root wish.moment g by files keeps
      → HasIndex root (new_entries by.old files) g indexed
      → IsSave root wish g
      (saves root (keeps_index indexed root (new_entries by.old files)) plan keeps g)

-- What is past a limit where a dataset is saved: where it is looked at; the text of the
-- configuration; the bytes of the new blobs; the place or the text of a log; the place of the
-- repository.
abbrev pub IsOverToSave : Names → List ℕ → ℕ → Type 0
IsOverToSave root path size =
    IsOverToView root path size
    ⊎ ((path ≡ text_of (settings_place root))
    ⊎ ((blobs_limit < size)
    ⊎ (((key : PlainKey) × MayReadLog (repo_of root) key (TooLarge path size))
    ⊎ IsTooLong (repo_of root) path size)))

-- The faults that a save may hand on, whatever the files tell.
abbrev pub MaySave : Bool → Names → Fault → Type 0
MaySave tells root (Damaged place) =
    IsTipPlace (repo_of root) place
    ⊎ ((id : List ℕ) × (place ≡ object_place (repo_of root) id))
MaySave tells root (Missing id) = Unit {0}
MaySave tells root (BadTree id at) = Unit {0}
MaySave tells root (BadCommit id at) = Unit {0}
MaySave tells root (TooLarge path size) = IsOverToSave root path size
MaySave tells root (UnsupportedMode path) = Unit {0}
MaySave tells root (OddKind path) = HasPlace root path
MaySave tells root (Dirty path) = IsTrue tells → ⊥
MaySave tells root (PathClash path) = IsTrue tells → ⊥
MaySave tells root (BadLine place line) = place ≡ settings_place root
MaySave tells root (BadLog place line) =
    (key : PlainKey) × (place ≡ log_place (repo_of root) key)
MaySave tells root (TimeFull text) = (key : PlainKey) × (text ≡ key_text key)
MaySave tells root (Collision id) = Unit {0}
MaySave tells root (Blocked at) = IsTrue tells
MaySave tells root fault = ⊥
