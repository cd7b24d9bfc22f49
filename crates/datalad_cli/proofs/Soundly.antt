-- A command keeps a sound ground sound, and is refused there for nothing that the program has left; it has one act.
use Rattle.std.proofs.Common.{◌≡◌, ◌⊎◌, inl, inr, ℕ, ◌<◌, ◌^◌, Bool, false, List, [], Option, Some, None, Result, Ok, Err, refl, sym, ap, ◌∙◌, subst}
use Rattle.places.specs.All.{Names, Ground, has_name}
use Rattle.faults.specs.declared.faults.Fault.{Fault}
use Rattle.faults.specs.declared.faults.Fault.TheVariants.{BadPath}
use Rattle.file_store.specs.All.{Drive, present}
use Rattle.git_objects.specs.declared.ids.Id.{Id}
use Rattle.repository.specs.All.{dlrepo}
use Rattle.acts.specs.All.{Act, Ending, Gives, Refuses, Breaks, EndsRefused, refuses, still}
use Rattle.dataset.specs.All.{IsSettled, Sound, StaysSound}
use Rattle.recursive_save.specs.All.{CreateKeepsSound, SaveKeepsSound, SaveIsComplete, SaveIsOne}
use Rattle.recursive_save.specs.All.{new_dataset, create_step, IsSoundEnding, IsSoundRefusal}
use Rattle.datalad_cli.specs.Commands.{Create, Save, HasOneAct, IsActIn, IsFaultIn, IsSaveBy}
use Rattle.datalad_cli.specs.Commands.{creates, ending_with, wish_of, with_text}
use Rattle.datalad_cli.specs.Ends.{KeepsSound}
use Rattle.datalad_cli.specs.Finding.{Location, no_root, root_in}
use Rattle.datalad_cli.specs.Messages.{MayLack, Source, message_in}
use Rattle.datalad_cli.proofs.Cuts.{cut_stays, step_stays, still_stays}
use Rattle.datalad_cli.proofs.Lacking.{lacks}
use Rattle.datalad_cli.proofs.Nearest.{root_stands}

-- AN ACT THAT DOES NOTHING
pub still_sound : (e : Ending (List ℕ)) (act : Act (List ℕ)) (old new : Drive) → act ≡ still e → Sound (present old) → IsSettled old.history.latest → StaysSound act old new
still_sound e act old new is sound settled = subst (λ (a : Act (List ℕ)). StaysSound a old new) (sym is) (still_stays e old new sound settled)

-- A CREATE
module _ (made : CreateKeepsSound) (at moment : ℕ) (dated : moment < 2 ^ 64) (fresh : List ℕ) (old new : Drive) where
  of_root : (o : Option Names) → ((root : Names) → o ≡ Some root → has_name dlrepo root ≡ false) → KeepsSound (Create o at moment fresh) (creates o at moment fresh (present old)) old new
  unfolding refuses
  of_root None clear can sound settled = still_stays {V = List ℕ} (Refuses (BadPath at)) old new sound settled
  of_root (Some root) clear can sound settled =
      step_stays {W = List ℕ} (create_step (new_dataset root moment fresh)) [] old new
      (made (new_dataset root moment fresh) old new (record { outside = clear root refl; dated = dated; own = can; sound = sound; settled = settled })).stays

  pub create_sound : (o : Option Names) → ((root : Names) → o ≡ Some root → has_name dlrepo root ≡ false) → (act : Act (List ℕ)) → act ≡ creates o at moment fresh (present old)
      → KeepsSound (Create o at moment fresh) act old new
  create_sound o clear act is = subst (λ (a : Act (List ℕ)). KeepsSound (Create o at moment fresh) a old new) (sym is) (of_root o clear)

-- A SAVE
module _ (kept : SaveKeepsSound) (at : Location) (to_git : Bool) (moment : ℕ) (old new : Drive) (sound : Sound (present old)) (settled : IsSettled old.history.latest) where
  stays_at : (o : Option Names) (told : Result (List ℕ) Fault) (act : Act (List ℕ)) → root_in at (present old) ≡ o → IsActIn at (IsSaveBy told to_git moment (present old)) o act → StaysSound act old new
  stays_at None told act found is = still_sound (Refuses (no_root at)) act old new is sound settled
  stays_at (Some root) (Err fault) act found is = still_sound (Refuses fault) act old new is sound settled
  stays_at (Some root) (Ok message) act found is =
      let saved : Act (Option Id) = is.0 in
      subst (λ (a : Act (List ℕ)). StaysSound a old new) (sym is.2)
      (cut_stays saved (ending_with [] saved.ending) old new
      (kept root (wish_of message to_git moment) saved old new (record { outside = (sound root (root_stands (present old) at root found)).outside; sound = sound; settled = settled }) is.1))

pub save_sound : SaveKeepsSound → (at : Location) (source : Source) (to_git : Bool) (moment : ℕ) (old new : Drive) (act : Act (List ℕ))
    → IsActIn at (IsSaveBy (message_in source (present old)) to_git moment (present old)) (root_in at (present old)) act → KeepsSound (Save at source to_git moment) act old new
save_sound kept at source to_git moment old new act is can sound settled = stays_at kept at to_git moment old new sound settled (root_in at (present old)) (message_in source (present old)) act refl is

-- ITS REFUSALS
sound_refusal : (e : Ending (Option Id)) (fault : Fault) (X : Type 0) → IsSoundEnding e → EndsRefused (ending_with [] e) fault X → IsSoundRefusal fault
sound_refusal (Gives v) fault X so h = absurd h
sound_refusal (Refuses own) fault X so h = subst IsSoundRefusal h.0 so
sound_refusal (Breaks own) fault X so h = subst IsSoundRefusal h so

module _ (complete : SaveIsComplete) (at : Location) (source : Source) (to_git : Bool) (moment : ℕ) (g : Ground) (fault : Fault) (X : Type 0) where
  abbrev Soundly : Option Names → Type 0
  Soundly o = IsFaultIn at (λ root. MayLack source fault ⊎ IsSoundRefusal fault) o fault

  refused_at : (o : Option Names) (told : Result (List ℕ) Fault) (act : Act (List ℕ)) → root_in at g ≡ o → message_in source g ≡ told → IsActIn at (IsSaveBy told to_git moment g) o act → EndsRefused act.ending fault X → Sound g → Soundly o
  refused_at None told act found from is ends sound =
      let own = subst (λ (a : Act (List ℕ)). EndsRefused a.ending fault X) is ends in
      sym own.0
  refused_at (Some root) (Err lack) act found from is ends sound =
      let own = subst (λ (a : Act (List ℕ)). EndsRefused a.ending fault X) is ends in
      inl (lacks source g fault (from ∙ ap (λ (f : Fault). Err f) own.0))
  refused_at (Some root) (Ok message) act found from is ends sound =
      let own = subst (λ (a : Act (List ℕ)). EndsRefused a.ending fault X) is.2 ends in
      inr (sound_refusal (is.0).ending fault X (complete root (wish_of message to_git moment) g is.0 sound (root_stands g at root found) is.1) own)

  pub save_refused : (act : Act (List ℕ)) → IsActIn at (IsSaveBy (message_in source g) to_git moment g) (root_in at g) act → EndsRefused act.ending fault X → Sound g → Soundly (root_in at g)
  save_refused act is ends sound = refused_at (root_in at g) (message_in source g) act refl refl is ends sound

-- ONE ACT
module _ (single : SaveIsOne) (at : Location) (source : Source) (to_git : Bool) (moment : ℕ) (g : Ground) where
  one_at : (o : Option Names) (told : Result (List ℕ) Fault) (one two : Act (List ℕ)) → IsActIn at (IsSaveBy told to_git moment g) o one → IsActIn at (IsSaveBy told to_git moment g) o two → one ≡ two
  one_at None told one two is other = is ∙ sym other
  one_at (Some root) (Err fault) one two is other = is ∙ sym other
  one_at (Some root) (Ok message) one two is other =
      is.2 ∙ ap (λ (saved : Act (Option Id)). with_text [] saved) (single root (wish_of message to_git moment) g is.0 other.0 is.1 other.1) ∙ sym other.2

  pub save_is_one : HasOneAct (Save at source to_git moment) g
  save_is_one one two is other = one_at (root_in at g) (message_in source g) one two is other
