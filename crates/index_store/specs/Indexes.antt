-- Which index is that of a snapshot, and how it is set.
use Rattle.std.specs.Prelude.{◌≡◌, ◌≤◌, ℕ, Bool, true, false, IsTrue, List, length, map, Some}
use Rattle.places.specs.All.{Names, Ground, file_at, longest, text_of}
use Rattle.faults.specs.declared.faults.Fault.{Fault}
use Rattle.faults.specs.declared.faults.Fault.TheVariants.{TooLarge, Blocked}
use Rattle.index_file.specs.All.{IsIndexText, index_text}
use Rattle.index_file.specs.declared.entries.IndexEntry.{IndexEntry}
use Rattle.repository.specs.All.{index_place, repo_limit, repo_of}
use Rattle.acts.specs.All.{Step, bind, gives, unless}
use Rattle.ref_store.specs.All.{IsOver, long_repo, puts_one}
use Rattle.snapshot.specs.All.{id_of, mode_of}
use Rattle.snapshot.specs.declared.entries.Entry.{Entry}

-- The entry of an index for a path of a snapshot: with the leaf's mode and id.
abbrev pub index_entry : Entry → IndexEntry
index_entry entry =
    record { path = entry.path; mode = mode_of entry.leaf; id = id_of entry.leaf }

-- The entries of a snapshot, one for each of its paths.
abbrev pub index_entries : List Entry → List IndexEntry
index_entries list = map index_entry list

-- The text of a snapshot's index, as it is written.
abbrev pub snapshot_text : List Entry → List ℕ
snapshot_text list = index_text (index_entries list)

-- How many bytes an index may have that is kept.
abbrev pub index_limit : ℕ
index_limit = 536870912

-- The index of a dataset is that of a snapshot: its place is no longer than places are, and bytes
-- stand there, not more than an index may have, that are an index of the snapshot's entries.
pub record IsIndexOf (root : Names) (list : List Entry) (g : Ground) : Type 0 where
  pub short : length (text_of (index_place root)) ≤ longest
  pub bytes : List ℕ
  pub stands : file_at g (index_place root) ≡ Some bytes
  pub few : length bytes ≤ index_limit
  pub reads : IsIndexText bytes (index_entries list)

-- Whether it is.
pub data HasIndex (root : Names) (list : List Entry) (g : Ground) : Bool → Type 0 where
  has : IsIndexOf root list g → HasIndex root list g true
  lacks : (IsIndexOf root list g → ⊥) → HasIndex root list g false

-- A set index: nothing where the repository's place is too long to write in, else the file is the
-- text of the snapshot's index.
unfoldable pub sets_index : Names → List Entry → Step (Unit {0})
sets_index root list =
    bind (unless (λ g. long_repo (repo_of root)))
    (λ _. puts_one (repo_of root) (index_place root) (snapshot_text list))

-- The index is made that of a snapshot: nothing is done where it is that already.
abbrev pub keeps_index : Bool → Names → List Entry → Step (Unit {0})
keeps_index true root list = gives tt
keeps_index false root list = sets_index root list

-- The faults that a setting of the index may hand on, whatever the files tell: the repository's
-- place, or a file that is told to be in the way.
abbrev pub MaySetIndex : Bool → Names → Fault → Type 0
MaySetIndex tells root (TooLarge path size) = IsOver repo_limit (repo_of root) path size
MaySetIndex tells root (Blocked at) = IsTrue tells
MaySetIndex tells root fault = ⊥
