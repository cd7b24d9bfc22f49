-- A new dataset: its texts, its objects, its index, and the ground that has it.
use Rattle.std.specs.Prelude.{ℕ, false, List, [], ◌∷◌, ◌++◌, codes, Some}
use Rattle.places.specs.All.{Names, Ground}
use Rattle.file_store.specs.All.{Round, finally}
use Rattle.git_objects.specs.All.{oid, hex_of, entry_of, person_of, commit_text}
use Rattle.git_objects.specs.declared.objects.ObjKind.TheVariants.{Blob, Tree, Commit}
use Rattle.git_objects.specs.declared.entries.Mode.TheVariants.{File, Dir}
use Rattle.config_text.specs.All.{printed_section, repo_text, uuid_text, made}
use Rattle.config_text.specs.declared.uuids.Role.TheVariants.{Dataset, Repository}
use Rattle.index_store.specs.All.{snapshot_text}
use Rattle.object_store.specs.All.{objects_round}
use Rattle.object_store.specs.declared.objects.NewObject.{NewObject}
use Rattle.repository.specs.All.{repo_of, config_place, settings_place, index_place, main_place}
use Rattle.repository.specs.All.{head_place}
use Rattle.snapshot.specs.declared.entries.Entry.{Entry}
use Rattle.snapshot.specs.declared.entries.Leaf.TheVariants.{Git}

-- `.datalad/config`: the dataset's id.
unfoldable pub dataset_config : List ℕ → Names → List ℕ
dataset_config fresh root =
    printed_section (codes "datalad") (Some (codes "dataset"))
    ((codes "id", uuid_text (made fresh Dataset root)) ∷ [])

-- The person of a repository that has set none.
unfoldable pub default_name : List ℕ
default_name = codes "DataLad User"

-- The email of a repository that has set none.
unfoldable pub default_email : List ℕ
default_email = codes "user@localhost"

-- `.dlrepo/config`: the repository's id, one copy is enough, the default person, no remote.
unfoldable pub settings_text : List ℕ → Names → List ℕ
settings_text fresh root = repo_text (made fresh Repository root) 1 default_name default_email [] []

-- The tree of `.datalad`, for the text of its file.
abbrev pub inner_tree : List ℕ → List ℕ
inner_tree config = entry_of File (codes "config") (oid Blob config)

-- The tree of the root.
abbrev pub root_tree : List ℕ → List ℕ
root_tree config = entry_of Dir (codes ".datalad") (oid Tree (inner_tree config))

-- The default person at a moment.
unfoldable pub default_person : ℕ → List ℕ
default_person moment = person_of default_name default_email moment (codes "+0000")

-- The message of a dataset's first commit.
unfoldable pub first_message : List ℕ
first_message = codes "[DATALAD] new dataset\n"

-- The first commit: the root's tree, no parent.
abbrev pub first_commit : List ℕ → ℕ → List ℕ
first_commit config moment =
    commit_text (oid Tree (root_tree config)) [] (default_person moment)
    (default_person moment) [] first_message

-- The id of the first commit.
abbrev pub first_id : List ℕ → ℕ → List ℕ
first_id config moment = oid Commit (first_commit config moment)

-- The objects of a new dataset.
abbrev pub first_objects : List ℕ → ℕ → List NewObject
first_objects config moment =
    record { kind = Blob; body = config } ∷ record { kind = Tree; body = inner_tree config }
    ∷ record { kind = Tree; body = root_tree config }
    ∷ record { kind = Commit; body = first_commit config moment } ∷ []

-- The snapshot of the first commit: `.datalad/config` alone.
abbrev pub first_snapshot : List ℕ → List Entry
first_snapshot config = record {
  path = codes ".datalad/config";
  leaf = Git (record { 0 = oid Blob config }) false;
} ∷ []

-- The file of the branch `main`.
abbrev pub main_text : List ℕ → ℕ → List ℕ
main_text config moment = hex_of (first_id config moment) ++ 10 ∷ []

-- HEAD of a new dataset.
unfoldable pub head_text : List ℕ
head_text = codes "ref: refs/heads/main\n"

-- The texts and objects of a dataset that is to be made.
pub record Parts : Type 0 where
  pub config : List ℕ
  pub settings : List ℕ
  pub index : List ℕ
  pub main : List ℕ
  pub objects : List NewObject

-- The rounds in which it is written: the objects, the files that only HEAD makes a dataset of,
-- HEAD.
abbrev pub dataset_rounds : Names → Parts → List Round
dataset_rounds root parts =
    objects_round (repo_of root) parts.objects
    ∷ ((config_place root, Some parts.config) ∷ (index_place root, Some parts.index)
    ∷ (settings_place root, Some parts.settings) ∷ (main_place root, Some parts.main) ∷ [])
    ∷ ((head_place root, Some head_text) ∷ []) ∷ []

-- A ground with a dataset of these texts and objects at a root.
abbrev pub with_dataset : Names → Parts → Ground → Ground
with_dataset root parts g = finally (dataset_rounds root parts) g

-- What a new dataset is made of: its root, the moment of its first commit, and 16 random bytes.
pub record NewDataset : Type 0 where
  pub root : Names
  pub moment : ℕ
  pub fresh : List ℕ

-- The same by its parts.
abbrev pub new_dataset : Names → ℕ → List ℕ → NewDataset
new_dataset root moment fresh = record { root = root; moment = moment; fresh = fresh }

-- The texts and objects of a new dataset.
abbrev pub new_parts : NewDataset → Parts
new_parts dataset = record {
  config = dataset_config dataset.fresh dataset.root;
  settings = settings_text dataset.fresh dataset.root;
  index = snapshot_text (first_snapshot (dataset_config dataset.fresh dataset.root));
  main = main_text (dataset_config dataset.fresh dataset.root) dataset.moment;
  objects = first_objects (dataset_config dataset.fresh dataset.root) dataset.moment;
}

-- A ground with a new dataset.
abbrev pub created : NewDataset → Ground → Ground
created dataset g = with_dataset dataset.root (new_parts dataset) g
