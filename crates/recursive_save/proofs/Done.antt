-- The act of a dataset that is made.
use Rattle.std.proofs.Common.{◌≡◌, ℕ, List, None, sym, subst, refl}
use Rattle.places.specs.All.{Names, Ground}
use Rattle.git_objects.specs.declared.ids.Id.{Id}
use Rattle.repository.proofs.Agreeing.{Agree-outside}
use Rattle.acts.specs.All.{Act}
use Rattle.file_store.specs.All.{finally}
use Rattle.recursive_save.specs.First.{new_dataset, new_parts, created, dataset_config, first_id}
use Rattle.recursive_save.specs.Creating.{create_fault}
use Rattle.recursive_save.specs.Laws.{IsMade, CreateMakes}
use Rattle.recursive_save.proofs.Made.{whole_rounds, made_act, create_made, vacant_of, last_same}

module _ (root : Names) (moment : ℕ) (fresh : List ℕ) (g : Ground) (none : create_fault root g ≡ None) where
  made_is : IsMade (new_dataset root moment fresh) g (made_act root moment fresh g (record { 0 = first_id (dataset_config fresh root) moment }))
  made_is =
      let same = last_same root (new_parts (new_dataset root moment fresh)) g (vacant_of root moment fresh g none) in
      record {
        ending = refl;
        lines = refl;
        safe = refl;
        stands = same;
        agrees = Agree-outside root (created (new_dataset root moment fresh) g) (finally (whole_rounds root (new_parts (new_dataset root moment fresh)) g) g) (λ q out. sym (same q out));
      }

pub made_so : CreateMakes
made_so dataset g clear none =
    subst (λ (a : Act Id). IsMade dataset g a) (sym (create_made dataset.root dataset.moment dataset.fresh g none))
    (made_is dataset.root dataset.moment dataset.fresh g none)
