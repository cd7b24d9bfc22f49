-- What a command leaves at every moment, from its act.
use Rattle.std.proofs.Common.{◌≡◌, inl, ⊎_elim, ℕ, Bool, false, List, [], Option, Some, None, Result, Ok, Err, refl, sym, subst}
use Rattle.places.specs.All.{Names, has_name, Ground, file_at}
use Rattle.file_store.specs.All.{Drive, Since, IsImage, present, IsAlong, WasOpen}
use Rattle.file_store.proofs.Moments.{weaken}
use Rattle.file_store.proofs.Consequences.{now_along, image_along, each_place, never}
use Rattle.git_objects.specs.declared.ids.Id.{Id}
use Rattle.repository.specs.All.{dlrepo}
use Rattle.acts.specs.All.{Act, Ending, last_of, none_loose, refuses, IsFirm, Moments, Nothing}
use Rattle.acts.specs.All.{IsSame, Refuses, still}
use Rattle.recursive_save.specs.All.{new_dataset, create_step, SaveKeeps}
use Rattle.recursive_save.proofs.Consequences.{every_moment}
use Rattle.faults.specs.declared.faults.Fault.{Fault}
use Rattle.faults.specs.declared.faults.Fault.TheVariants.{BadPath}
use Rattle.datalad_cli.specs.Commands.{Create, Save, IsActIn, IsSaveBy, LeavesAt, creates, ending_with}
use Rattle.datalad_cli.specs.Commands.{wish_of}
use Rattle.datalad_cli.specs.Ends.{AtEachMoment}
use Rattle.datalad_cli.specs.Finding.{Location, no_root, root_in}
use Rattle.datalad_cli.specs.Messages.{Source, message_in}
use Rattle.datalad_cli.proofs.Cuts.{cut_moments, step_moments}

-- where no round is, nothing changes
same_along : (Else : Names → Option (List ℕ) → Type 0) (g x : Ground) → IsAlong (IsFirm none_loose) Else g [] x → IsSame Else g x
same_along Else g x along q at = ⊎_elim {A = file_at x q ≡ file_at g q} (λ old. inl old) (λ rest. rest) (each_place (IsFirm none_loose) Else x q at never along)

-- what stands, and what a crash leaves
abbrev pub Remains : ((Names → Option (List ℕ) → Type 0) → Ground → Type 0) → Drive → Drive → Type 0
Remains P old new =
    Since (λ d. P Nothing d.now) old.history new.history
    × Since (λ d. (x : Ground) → IsImage d x → P (WasOpen old.history.latest) x) old.history new.history

-- AN ACT THAT DOES NOTHING
still_same : (e : Ending (List ℕ)) (old new : Drive) → Moments (still e) old new → Remains (λ Else x. IsSame Else (present old) x) old new
still_same e old new m = (
  weaken (λ d along. same_along Nothing (present old) d.now (now_along (IsFirm none_loose) old.history.latest (present old) [] d along)) m.along.moments,
  weaken (λ d along x image. same_along (WasOpen old.history.latest) (present old) x (image_along (IsFirm none_loose) old.history.latest (present old) [] d along x image)) m.along.moments,
)

pub nothing_left : (e : Ending (List ℕ)) (act : Act (List ℕ)) (old new : Drive) → act ≡ still e → Moments act old new → Remains (λ Else x. IsSame Else (present old) x) old new
nothing_left e act old new is m = still_same e old new (subst (λ (a : Act (List ℕ)). Moments a old new) is m)

-- A CREATE
module _ (at moment : ℕ) (fresh : List ℕ) (old new : Drive) where
  of_root : (o : Option Names) → ((root : Names) → o ≡ Some root → has_name dlrepo root ≡ false) → Moments (creates o at moment fresh (present old)) old new
      → AtEachMoment (Create o at moment fresh) (creates o at moment fresh (present old)) old new
  unfolding refuses
  of_root None clear m =
      let same = still_same (Refuses (BadPath at)) old new m in
      record { along = m; stands = same.0; images = same.1 }
  of_root (Some root) clear m =
      let all = every_moment (new_dataset root moment fresh) old new (clear root refl) (step_moments {W = List ℕ} (create_step (new_dataset root moment fresh)) [] old new m) in
      record { along = m; stands = weaken (λ d both. both.0) all; images = weaken (λ d both. both.1) all }

  pub create_leaves : (o : Option Names) → ((root : Names) → o ≡ Some root → has_name dlrepo root ≡ false) → (act : Act (List ℕ)) → act ≡ creates o at moment fresh (present old)
      → Moments act old new → AtEachMoment (Create o at moment fresh) act old new
  create_leaves o clear act is m =
      subst (λ (a : Act (List ℕ)). AtEachMoment (Create o at moment fresh) a old new) (sym is) (of_root o clear (subst (λ (a : Act (List ℕ)). Moments a old new) is m))

-- A SAVE
module _ (remains : SaveKeeps) (at : Location) (source : Source) (to_git : Bool) (moment : ℕ) (old new : Drive) where
  abbrev Left : Option Names → Result (List ℕ) Fault → Act (List ℕ) → Type 0
  Left o told act = Remains (λ Else x. LeavesAt o told (last_of act (present old)) Else (present old) x) old new

  left_at : (o : Option Names) (told : Result (List ℕ) Fault) (act : Act (List ℕ)) → IsActIn at (IsSaveBy told to_git moment (present old)) o act → Moments act old new → Left o told act
  left_at None told act is m = nothing_left (Refuses (no_root at)) act old new is m
  left_at (Some root) (Err fault) act is m = nothing_left (Refuses fault) act old new is m
  left_at (Some root) (Ok message) act is m =
      let saved : Act (Option Id) = is.0 in
      let along : Moments saved old new = cut_moments saved (ending_with [] saved.ending) old new (subst (λ (a : Act (List ℕ)). Moments a old new) is.2 m) in
      let all = remains root (wish_of message to_git moment) saved old new is.1 along in
      subst (λ (a : Act (List ℕ)). Left (Some root) (Ok message) a) (sym is.2) (weaken (λ d both. both.0) all, weaken (λ d both. both.1) all)

  pub save_leaves : (act : Act (List ℕ)) → IsActIn at (IsSaveBy (message_in source (present old)) to_git moment (present old)) (root_in at (present old)) act → Moments act old new → AtEachMoment (Save at source to_git moment) act old new
  save_leaves act is m =
      let left = left_at (root_in at (present old)) (message_in source (present old)) act is m in
      record { along = m; stands = left.0; images = left.1 }
