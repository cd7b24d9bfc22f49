-- That the making of a dataset and a save keep a sound disk sound, at every moment.
use Rattle.std.specs.Prelude.{◌≡◌, ◌<◌, ◌^◌, codes, Option, Some, None}
use Rattle.places.specs.All.{Names}
use Rattle.file_store.specs.All.{Drive, present}
use Rattle.repository.specs.All.{Head, head_of, repo_of}
use Rattle.acts.specs.All.{Act, last_of}
use Rattle.git_objects.specs.declared.ids.Id.{Id}
use Rattle.dataset.specs.All.{IsSettled, StaysSound, NoneCollide, Sound, IsRoot}
use Rattle.recursive_save.specs.First.{NewDataset, new_parts, dataset_config, first_id}
use Rattle.recursive_save.specs.Creating.{create_fault, create_step}
use Rattle.recursive_save.specs.Saving.{IsSave}
use Rattle.recursive_save.specs.declared.wishes.SaveWish.{SaveWish}

-- The head of a new dataset: the branch `main`, at the first commit.
abbrev pub new_head : NewDataset → Head
new_head dataset = record {
  branch = Some (codes "main");
  id = first_id (dataset_config dataset.fresh dataset.root) dataset.moment;
}

-- A dataset that is to be made at a root, at a moment that a commit can have, of objects of which
-- no two collide; on a sound ground and a settled disk.
pub record CanCreate (dataset : NewDataset) (old : Drive) : Type 0 where
  pub outside : IsRoot dataset.root
  pub dated : dataset.moment < 2 ^ 64
  pub own : NoneCollide (repo_of dataset.root) (new_parts dataset).objects
  pub sound : Sound (present old)
  pub settled : IsSettled old.history.latest

-- At every moment of its making, what stands and what a crash leaves is sound, and has lost no
-- object and no content that matched its key; and where nothing refuses it, it has its head at the
-- end.
pub record CreatesSound (dataset : NewDataset) (old new : Drive) : Type 0 where
  pub stays : StaysSound (create_step dataset (present old)) old new
  pub head : create_fault dataset.root (present old) ≡ None
      → head_of (last_of (create_step dataset (present old)) (present old)) (repo_of dataset.root)
      ≡ Some (new_head dataset)

-- So is each making of such a dataset.
abbrev pub CreateKeepsSound : Type 0
CreateKeepsSound =
    (dataset : NewDataset) (old new : Drive) → CanCreate dataset old → CreatesSound dataset old new

-- A dataset can be saved at a root, on a sound ground and a settled disk.
pub record CanSave (root : Names) (old : Drive) : Type 0 where
  pub outside : IsRoot root
  pub sound : Sound (present old)
  pub settled : IsSettled old.history.latest

-- At every moment of a save, what stands and what a crash leaves is sound, has the heads of one of
-- the act's grounds, and has lost no object and no content that matched its key.
abbrev pub SaveKeepsSound : Type 0
SaveKeepsSound =
    (root : Names) (wish : SaveWish) (act : Act (Option Id)) (old new : Drive) → CanSave root old
    → IsSave root wish (present old) act → StaysSound act old new
