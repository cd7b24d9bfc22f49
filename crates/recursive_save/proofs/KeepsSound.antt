-- The making of a dataset keeps a sound disk sound.
use Rattle.std.proofs.Common.{◌≡◌, ℕ, List, ◌++◌, codes, Option, Some, None, refl, sym, ap, ◌∙◌, subst}
use Rattle.places.specs.All.{Names, Ground, file_at}
use Rattle.faults.specs.declared.faults.Fault.{Fault}
use Rattle.file_store.specs.All.{Round, finally, Drive, present}
use Rattle.file_store.proofs.Course.{SameRounds}
use Rattle.git_objects.specs.declared.ids.Id.{Id}
use Rattle.repository.specs.All.{head_of, dlrepo, repo_of, IsOutside}
use Rattle.repository.proofs.Unfinished.{firm_outside}
use Rattle.acts.specs.All.{Act, Refuses, still, last_of}
use Rattle.dataset.specs.All.{birth_rounds, IsBorn, BeginsSound, AllKeepSound, IsConfiguration}
use Rattle.dataset.specs.All.{IsWatched, SameWatched}
use Rattle.dataset.proofs.Birth.{born}
use Rattle.dataset.proofs.Moments.{moments_intact, end_sound, end_settled}
use Rattle.dataset.proofs.Rows.{all_same_keep}
use Rattle.dataset.proofs.Splits.{in_repo, watched_no_tmp}
use Rattle.dataset.proofs.Watching.{same_heads}
use Rattle.recursive_save.specs.First.{NewDataset, new_parts, dataset_config, settings_text}
use Rattle.recursive_save.specs.First.{first_objects, first_id, dataset_rounds}
use Rattle.recursive_save.specs.Creating.{create_fault, create_step}
use Rattle.recursive_save.specs.Soundness.{new_head, CanCreate, CreatesSound}
use Rattle.recursive_save.proofs.Clear.{free_at}
use Rattle.recursive_save.proofs.Consequences.{same_fewer}
use Rattle.recursive_save.proofs.FirstCommit.{working_round, first_birth, birth_is}
use Rattle.recursive_save.proofs.Made.{whole_rounds, made_act, create_made, create_refused, vacant_of, last_same, rounds_same}

module _ (dataset : NewDataset) (old : Drive) (can : CanCreate dataset old) (valid : IsConfiguration (settings_text dataset.fresh dataset.root)) where
  abbrev root : Names
  root = dataset.root

  abbrev g : Ground
  g = present old

  abbrev config : List ℕ
  config = dataset_config dataset.fresh dataset.root

  abbrev id : Id
  id = record { 0 = first_id config dataset.moment }

  abbrev births : List Round
  births = birth_rounds root (first_objects config dataset.moment) (working_round root config) (settings_text dataset.fresh root) (codes "main") (first_id config dataset.moment)

  abbrev rounds : List Round
  rounds = dataset_rounds root (new_parts dataset)

  abbrev wholes : List Round
  wholes = whole_rounds root (new_parts dataset) g

  watched_outside : (q : Names) → IsWatched q → IsOutside (repo_of root) q
  watched_outside q watched = firm_outside root q (watched_no_tmp q watched)

  -- what is to be shown of an act
  record Begun (act : Act Id) : Type 0 where
    begins : BeginsSound act old
    head : create_fault root g ≡ None → head_of (last_of act g) (repo_of root) ≡ Some (new_head dataset)

  module _ (none : create_fault root g ≡ None) where
    vacant : (names : Names) → file_at g (repo_of root ++ names) ≡ None
    vacant names = free_at root g (repo_of root ++ names) (vacant_of root dataset.moment dataset.fresh g none) (dlrepo, names, in_repo root names)

    is_born : IsBorn root (first_objects config dataset.moment) (working_round root config) (settings_text dataset.fresh root) (codes "main") (first_id config dataset.moment) g
    is_born = born root (first_objects config dataset.moment) (working_round root config) (settings_text dataset.fresh root) (codes "main") (first_id config dataset.moment) g
        (first_birth root dataset.moment dataset.fresh g can.outside can.dated vacant can.own valid)

    kept : AllKeepSound rounds g
    kept = subst (λ (rs : List Round). AllKeepSound rs g) (birth_is root dataset.moment dataset.fresh) is_born.keep

    same : SameRounds IsWatched g wholes g rounds
    same = same_fewer (IsOutside (repo_of root)) IsWatched watched_outside g g wholes rounds
        (rounds_same root (new_parts dataset) g (vacant_of root dataset.moment dataset.fresh g none))

    all_kept : AllKeepSound wholes g
    all_kept = all_same_keep rounds wholes g g (λ q watched. refl) same kept

    last_watched : SameWatched (finally wholes g) (finally rounds g)
    last_watched q watched = last_same root (new_parts dataset) g (vacant_of root dataset.moment dataset.fresh g none) q (watched_outside q watched)

    last_head : head_of (finally wholes g) (repo_of root) ≡ Some (new_head dataset)
    last_head =
        same_heads (finally rounds g) (finally wholes g) last_watched root can.outside
        ∙ ap (λ (rs : List Round). head_of (finally rs g) (repo_of root)) (sym (birth_is root dataset.moment dataset.fresh))
        ∙ is_born.head

    of_made : Begun (made_act root dataset.moment dataset.fresh g id)
    of_made = record {
      begins = record { sound = can.sound; settled = can.settled; keeps = record { rounds = all_kept; loose = λ q watched. refl } };
      head = λ is. last_head;
    }

  of_refused : (fault : Fault) → create_fault root g ≡ Some fault → Begun (still (Refuses fault))
  of_refused fault is = record {
    begins = record { sound = can.sound; settled = can.settled; keeps = record { rounds = tt; loose = λ q watched. refl } };
    head = λ none. absurd (cc (sym none ∙ is));
  }

  of_fault : (o : Option Fault) → create_fault root g ≡ o → Begun (create_step dataset g)
  of_fault (Some fault) is = subst Begun (sym (create_refused root dataset.moment dataset.fresh g fault is)) (of_refused fault is)
  of_fault None is = subst Begun (sym (create_made root dataset.moment dataset.fresh g is)) (of_made is)

  pub creates : (new : Drive) → CreatesSound dataset old new
  creates new =
      let begun = of_fault (create_fault root g) refl in
      let act = create_step dataset g in
      record {
        stays = record {
          moments = moments_intact act old begun.begins new;
          sound = end_sound act old begun.begins new;
          settled = end_settled act old begun.begins new;
        };
        head = begun.head;
      }
