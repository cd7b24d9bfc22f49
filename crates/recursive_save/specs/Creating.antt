-- The making of a dataset: why it is refused, what is done, what is said.
use Rattle.std.specs.Prelude.{◌≡◌, ℕ, Bool, false, IsTrue, ◌||◌, nat_lt, if◌then◌else◌, List, []}
use Rattle.std.specs.Prelude.{◌∷◌, ◌++◌, length, codes, Option, None, Some, Result, Ok, Err}
use Rattle.places.specs.All.{Names, text_of, Ground, stands, stands_below, stands_above}
use Rattle.faults.specs.declared.lines.Line.{Line}
use Rattle.faults.specs.declared.faults.Fault.{Fault}
use Rattle.faults.specs.declared.faults.Trouble.{Trouble}
use Rattle.faults.specs.declared.faults.Fault.TheVariants.{AlreadyThere, TooLarge, Blocked}
use Rattle.file_store.specs.All.{only}
use Rattle.file_store.specs.declared.replacing.Replacement.{Replacement}
use Rattle.git_objects.specs.declared.ids.Id.{Id}
use Rattle.repository.specs.All.{tmp_place, repo_of, config_place, settings_place, index_place}
use Rattle.repository.specs.All.{main_place, head_place, repo_limit, large}
use Rattle.acts.specs.All.{Step, gives, unless, says, bind, puts}
use Rattle.object_store.specs.All.{IsFoundAmong, IsTooLong, puts_objects}
use Rattle.recursive_save.specs.First.{NewDataset, Parts, new_parts, dataset_config, first_id}
use Rattle.recursive_save.specs.First.{head_text}

-- A file by way of a numbered temporary place.
abbrev pub by_tmp : Names → ℕ → Names → List ℕ → Replacement
by_tmp root i place bytes =
    record { tmp = tmp_place (repo_of root) i; place = place; bytes = bytes }

-- The files between the objects and HEAD: `.datalad/config`, the index, `.dlrepo/config` and the
-- branch.
abbrev pub middle_files : Names → List ℕ → List ℕ → List ℕ → List ℕ → List Replacement
middle_files root config index settings main =
    by_tmp root 0 (config_place root) config
    ∷ by_tmp root 1 (index_place root) index
    ∷ by_tmp root 2 (settings_place root) settings
    ∷ by_tmp root 3 (main_place root) main ∷ []

-- No file stands at or below the root.
abbrev pub IsVacant : Names → Ground → Type 0
IsVacant root g = (stands g root || stands_below g root) ≡ false

-- The writing of a dataset: its objects, the files that only HEAD makes a dataset of, HEAD.
abbrev pub dataset_step : Names → Parts → Step (Unit {0})
dataset_step root parts =
    bind (puts_objects (repo_of root) parts.objects) (λ _.
    bind (puts (middle_files root parts.config parts.index parts.settings parts.main)) (λ _.
    puts (only (tmp_place (repo_of root) 0) (head_place root) head_text)))

-- Why no dataset is made at a root: a file stands at or below it, or its repository's place is too
-- long to write in, or a file above it is in the way of the first file that is written.
abbrev pub create_fault : Names → Ground → Option Fault
create_fault root g =
    if stands g root || stands_below g root then Some (AlreadyThere root)
    else (if nat_lt repo_limit (length (text_of (repo_of root))) then large (repo_of root)
    else (if stands_above g root then Some (Blocked (tmp_place (repo_of root) 0)) else None))

-- The line of a dataset that was made.
abbrev pub created_line : Names → Line
created_line root = record {
  action = codes "create";
  status = codes "ok";
  path = text_of root;
  kind = codes "dataset";
}

-- The faults that the making of a dataset may hand on, whatever the files tell: something is at its
-- place; the place of its repository is too long to write in; a file is told to be in the way; or
-- one of bytes at the place of one of its objects.
abbrev pub MayCreate : Bool → NewDataset → Fault → Type 0
MayCreate tells dataset (AlreadyThere place) = place ≡ dataset.root
MayCreate tells dataset (TooLarge path size) = IsTooLong (repo_of dataset.root) path size
MayCreate tells dataset (Blocked at) = IsTrue tells
MayCreate tells dataset fault =
    IsFoundAmong (repo_of dataset.root) (new_parts dataset).objects fault

-- The end of the making: its line, and its commit's id.
abbrev pub finish : NewDataset → Step Id
finish dataset =
    bind (says (created_line dataset.root)) (λ _.
    gives (record { 0 = first_id (dataset_config dataset.fresh dataset.root) dataset.moment }))

-- THE MAKING of a dataset: the test, the writing, the end.
abbrev pub create_step : NewDataset → Step Id
create_step dataset =
    bind (unless (create_fault dataset.root)) (λ _.
    bind (dataset_step dataset.root (new_parts dataset)) (λ _.
    finish dataset))

-- The lines, whatever the files tell.
abbrev pub CreateSays : Names → List Line → List Line → Result Id Trouble → Type 0
CreateSays root before after (Ok id) = after ≡ before ++ created_line root ∷ []
CreateSays root before after (Err e) = after ≡ before
