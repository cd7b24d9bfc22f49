-- What follows of the making of a dataset.
use Rattle.std.specs.Prelude.{◌≡◌, true, false, [], ◌∷◌, Some, None}
use Rattle.places.specs.All.{Names, has_name, Ground, file_at}
use Rattle.faults.specs.declared.faults.Fault.{Fault}
use Rattle.file_store.specs.All.{Disk, Drive, Since, IsImage, WasOpen, present}
use Rattle.git_objects.specs.declared.ids.Id.{Id}
use Rattle.repository.specs.All.{dlrepo, repo_of, IsOutside, Agree}
use Rattle.acts.specs.All.{Act, Gives, Refuses, still, lines_in, last_of, Moments, Nothing}
use Rattle.recursive_save.specs.First.{NewDataset, created, dataset_config, first_id}
use Rattle.recursive_save.specs.Creating.{create_fault, create_step, created_line}
use Rattle.recursive_save.specs.Remains.{CreateRemains}

-- Where a fault refuses the making of a dataset, nothing is done.
abbrev pub CreateRefuses : Type 0
CreateRefuses =
    (dataset : NewDataset) (g : Ground) (fault : Fault) → create_fault dataset.root g ≡ Some fault
    → create_step dataset g ≡ still (Refuses fault)

-- An act that makes a dataset: it gives the first commit's id and says the line; all that stands at
-- its end is safe from a crash; the ground to which it comes is that with the new dataset, outside
-- the unfinished writes, and agrees with it.
pub record IsMade (dataset : NewDataset) (g : Ground) (act : Act Id) : Type 0 where
  pub ending : act.ending
      ≡ Gives (record { 0 = first_id (dataset_config dataset.fresh dataset.root) dataset.moment })
  pub lines : lines_in act ≡ created_line dataset.root ∷ []
  pub safe : act.safe ≡ true
  pub stands : (q : Names) → IsOutside (repo_of dataset.root) q
      → file_at (last_of act g) q ≡ file_at (created dataset g) q
  pub agrees : Agree (created dataset g) (last_of act g)

-- Where no fault refuses it, the dataset is made.
abbrev pub CreateMakes : Type 0
CreateMakes =
    (dataset : NewDataset) (g : Ground) → has_name dlrepo dataset.root ≡ false
    → create_fault dataset.root g ≡ None → IsMade dataset g (create_step dataset g)

-- What is left in what stands, and in each ground that a crash may leave, where a place that was
-- open at the start may have what a crash might have left of it then.
abbrev pub RemainsAt : NewDataset → Drive → Disk → Type 0
RemainsAt dataset old d =
    CreateRemains dataset Nothing (present old) d.now
    × ((x : Ground) → IsImage d x
    → CreateRemains dataset (WasOpen old.history.latest) (present old) x)

-- At every moment of a making that goes along the rounds of its act, this is left.
abbrev pub CreateKeeps : Type 0
CreateKeeps =
    (dataset : NewDataset) (old new : Drive) → has_name dlrepo dataset.root ≡ false
    → Moments (create_step dataset (present old)) old new
    → Since (λ d. RemainsAt dataset old d) old.history new.history
