-- The moves of a list of files that are ready.
use Rattle.std.proofs.Common.{◌≡◌, ◌+◌, ◌≤◌, ℕ, zero, suc, Bool, cond, IsTrue, List, [], ◌∷◌, length, drop, Some, Ok, Err, refl, sym, ◌∙◌, ap, subst}
use Rattle.std.specs.Prelude.{slice_get}
use Rattle.std.proofs.lemmas.List.{drop_all, length-map}
use Rattle.std.proofs.lemmas.Option.{slice_get_within, get_or_from_slice_get}
use Rattle.file_store.specs.Disk.{Drive, MayStep, IsRenamed}
use Rattle.file_store.specs.Ends.{present, BarrierEnds, RenameEnds}
use Rattle.file_store.specs.Course.{GoesAlong}
use Rattle.file_store.specs.Replaced.{IsNoTmp, ReplaceEnds, installed, move_block, replaced, round_of}
use Rattle.file_store.specs.Rounds.{AreMovesOf, AreStaged, MoveEnds, StageEnds, moves_of}
use Rattle.file_store.specs.declared.errors.FileErr.{FileErr}
use Rattle.file_store.specs.declared.errors.FileErr.TheVariants.{Failed, Blocked, NoMemory}
use Rattle.file_store.specs.declared.replacing.Move.{Move}
use Rattle.file_store.specs.declared.replacing.Replacement.{Replacement}
use Rattle.file_store.proofs.Moves.{Moving, moving_source, moved_along, moving_in_call, moving_after}
use Rattle.file_store.proofs.OneFile.{found_it}
use Rattle.file_store.proofs.Writes.{drop_here}

-- the file that a move belongs to
at_move : (list : List Replacement) (i : ℕ) (m : Move) → slice_get (moves_of list) i ≡ Some m → (r : Replacement) × (slice_get list i ≡ Some r) × (m ≡ record { tmp = r.tmp; place = r.place })
at_move [] i m at = absurd (cc at)
at_move (x ∷ list) zero m at =
    let is : record { tmp = x.tmp; place = x.place } ≡ m = cc at in
    (x, refl, sym is)
at_move (x ∷ list) (suc i) m at = at_move list i m at

module _ (tells : Bool) (moves : List Move) (i : ℕ) (list : List Replacement) (are : AreMovesOf moves list) (start now : Drive) (reached : IsTrue tells → Moving list start.history now.history i) where
  module _ (m : Move) (at : slice_get moves i ≡ Some m) (new : Drive) where
    found : (r : Replacement) × (slice_get list i ≡ Some r) × (m ≡ record { tmp = r.tmp; place = r.place })
    found = at_move list i m (sym (ap (λ (l : List Move). slice_get l i) are.same) ∙ at)

    abbrev r : Replacement
    r = found.0

    here : drop i list ≡ r ∷ drop (i + 1) list
    here = drop_here list i r (slice_get_within list i r found.1) (sym (get_or_from_slice_get list i r r found.1))

    stepped : (IsTrue tells → MayStep (IsRenamed m.tmp m.place) now.history new.history) → IsTrue tells → MayStep (IsRenamed r.tmp r.place) now.history new.history
    stepped steps told = subst (λ (z : Move). MayStep (IsRenamed z.tmp z.place) now.history new.history) found.2 (steps told)

    pub renaming_goes : (IsTrue tells → MayStep (IsRenamed m.tmp m.place) now.history new.history) → IsTrue tells → GoesAlong (IsNoTmp list) (λ g. round_of list ∷ []) start new
    renaming_goes steps told = moved_along list (moving_in_call list start.history now.history new.history i r here found.1 (reached told) are.apart (stepped steps told))

    pub renaming_after : (answer : Bool) → RenameEnds tells m.tmp m.place now new (Ok answer) → (IsTrue tells → MayStep (IsRenamed m.tmp m.place) now.history new.history) → IsTrue tells → Moving list start.history new.history (i + 1)
    renaming_after answer ends steps told =
        let ended = subst (λ (z : Move). RenameEnds tells z.tmp z.place now new (Ok answer)) found.2 ends in
        let moved = found_it tells r.tmp r.place r.bytes now new (λ t. moving_source list start.history now.history new.history i r here found.1 (reached t)) answer ended told in
        moving_after list start.history now.history new.history i r here found.1 (reached told) are.apart (stepped steps told) moved.0 moved.2

    pub renaming_stops : (e : FileErr) → RenameEnds tells m.tmp m.place now new (Err e) → MoveEnds tells list start new (Err e)
    renaming_stops Failed ends = tt
    renaming_stops (Blocked at) ends =
        let ended = subst (λ (z : Move). RenameEnds tells z.tmp z.place now new (Err (Blocked at))) found.2 ends in
        let g = present now in
        let block : move_block (r ∷ drop (i + 1) list) g ≡ Some r.place = ap (λ b. cond b (Some r.place) (move_block (drop (i + 1) list) (replaced r.tmp r.place r.bytes g))) ended.3 in (
          ended.0,
          sym (reached ended.0).block ∙ ap (λ (l : List Replacement). move_block l g) here ∙ block ∙ ap Some (sym ended.1),
        )
    renaming_stops NoMemory ends = tt

  pub renaming_ends : length moves ≤ i → MoveEnds tells list start now (Ok tt)
  renaming_ends past = λ told.
      let none : drop i list ≡ [] = drop_all i list (subst (λ n. n ≤ i) (ap length are.same ∙ length-map list (λ (r : Replacement). record { tmp = r.tmp; place = r.place })) past) in
      let was = reached told in (
        sym (ap (λ (l : List Replacement). installed l (present now)) none) ∙ was.rest,
        sym was.block ∙ ap (λ (l : List Replacement). move_block l (present now)) none,
      )

-- ---- the round of files that were staged

module _ (tells : Bool) (list : List Replacement) (start old : Drive) (was : IsTrue tells → AreStaged list start old) where
  pub are_written : StageEnds tells list start old (Ok tt)
  are_written told = ((was told).written, (was told).free)

  pub barrier_fails : (new : Drive) (e : FileErr) → BarrierEnds tells old new (Err e) → ReplaceEnds tells list start new (Err e)
  barrier_fails new Failed ends = tt
  barrier_fails new (Blocked at) ends = absurd ends
  barrier_fails new NoMemory ends = tt
