-- The files at a list of places removed, one by one.
use Rattle.std.proofs.Common.{◌≡◌, ◌+◌, inl, inr, ℕ, zero, suc, Bool, true, false, IsTrue, List, [], ◌∷◌, drop, Some, None, Ok, Err, Result, refl, sym, ◌∙◌, ap, subst}
use Rattle.std.specs.Prelude.{slice_get}
use Rattle.std.specs.FinMap.{remove}
use Rattle.places.specs.All.{Names, Ground, file_at, stands}
use Rattle.places.proofs.Grounds.{cases_place, same_ground, file_at-remove_same, file_at-remove_other}
use Rattle.places.proofs.Standing.{stands-none}
use Rattle.file_store.specs.Disk.{Disk, Drive, History, Since, begun, MayStep, IsRemoved, at_rest}
use Rattle.file_store.specs.Ends.{present, RemoveEnds, BarrierEnds}
use Rattle.file_store.specs.Course.{LiesBetween, here, changed, GoesAlong}
use Rattle.file_store.specs.Removed.{Everywhere, removal_of, RemoveAllEnds}
use Rattle.file_store.specs.declared.errors.FileErr.{FileErr}
use Rattle.file_store.specs.declared.errors.FileErr.TheVariants.{Failed, Blocked, NoMemory}
use Rattle.file_store.proofs.Moments.{weaken, carries}
use Rattle.file_store.proofs.Course.{at_start, towards, LiesBetween-removed, rounds_as, goes_as}

-- in any order
swapped : (g : Ground) (p r : Names) → remove (remove g p) r ≡ remove (remove g r) p
swapped g p r = same_ground _ _ (λ q. elim (cases_place q p) [
  | inl is ↦ elim (cases_place q r) [
    | inl also ↦ file_at-remove_same (remove g p) r q also ∙ sym (file_at-remove_same (remove g r) p q is)
    | inr other ↦ file_at-remove_other (remove g p) r q other ∙ file_at-remove_same g p q is ∙ sym (file_at-remove_same (remove g r) p q is)
  ]
  | inr differ ↦ elim (cases_place q r) [
    | inl also ↦ file_at-remove_same (remove g p) r q also ∙ sym (file_at-remove_other (remove g r) p q differ ∙ file_at-remove_same g r q also)
    | inr other ↦ file_at-remove_other (remove g p) r q other ∙ file_at-remove_other g p q differ ∙ sym (file_at-remove_other (remove g r) p q differ ∙ file_at-remove_other g r q other)
  ]
])

first_removed : (list : List Names) (g : Ground) (p : Names) → changed (removal_of list) (remove g p) ≡ remove (changed (removal_of list) g) p
first_removed [] g p = refl
first_removed (r ∷ list) g p = ap (λ (h : Ground). remove h r) (first_removed list g p) ∙ swapped (changed (removal_of list) g) p r

-- where none stands there is nothing to remove
none_removed : (g : Ground) (p : Names) → stands g p ≡ false → remove g p ≡ g
none_removed g p gone = same_ground _ _ (λ q. elim (cases_place q p) [
  | inl is ↦ file_at-remove_same g p q is ∙ sym (ap (file_at g) is ∙ stands-none g p gone)
  | inr differ ↦ file_at-remove_other g p q differ
])

gone_after : (list : List Names) (g : Ground) (i : ℕ) (p : Names) → slice_get list i ≡ Some p → file_at (changed (removal_of list) g) p ≡ None
gone_after [] g i p at = absurd (cc at)
gone_after (r ∷ list) g zero p at = let is : r ≡ p = cc at in file_at-remove_same (changed (removal_of list) g) r p (sym is)
gone_after (r ∷ list) g (suc i) p at = elim (cases_place p r) [
  | inl is ↦ file_at-remove_same (changed (removal_of list) g) r p is
  | inr differ ↦ file_at-remove_other (changed (removal_of list) g) r p differ ∙ gone_after list g i p at
]

-- as far as an index
abbrev pub Clearing : List Names → History → Disk → Type 0
Clearing list start = LiesBetween Everywhere start.latest start.latest.now (changed (removal_of list) start.latest.now)

pub record Removing (list : List Names) (start now : History) (i : ℕ) : Type 0 where
  pub rest : changed (removal_of (drop i list)) now.latest.now ≡ changed (removal_of list) start.latest.now
  pub run : Since (Clearing list start) start now

pub removing_starts : (list : List Names) (start : History) → Removing list start start 0
removing_starts list start = record { rest = refl; run = begun (towards Everywhere start.latest start.latest.now (changed (removal_of list) start.latest.now) start.latest (at_start Everywhere start.latest)) }

pub cleared : (list : List Names) {old new : Drive} → Since (Clearing list old.history) old.history new.history → GoesAlong Everywhere (λ g. removal_of list ∷ []) old new
cleared list run = record { moments = weaken (λ d lies. here lies) run }

module _ (list : List Names) (start now new : History) (i : ℕ) (p : Names) (listed : slice_get list i ≡ Some p) (reached : Removing list start now i) where
  pub removing_in_call : MayStep (IsRemoved p) now new → Since (Clearing list start) start new
  removing_in_call step = carries (IsRemoved p)
      (λ d e lies is. subst (Clearing list start) (sym is) (LiesBetween-removed Everywhere start.latest start.latest.now (changed (removal_of list) start.latest.now) d lies p (gone_after list start.latest.now i p listed)))
      reached.run step

  pub removing_after : drop i list ≡ p ∷ drop (i + 1) list → MayStep (IsRemoved p) now new → new.latest.now ≡ remove now.latest.now p → Removing list start new (i + 1)
  removing_after first step is = record {
    rest =
        ap (λ (g : Ground). changed (removal_of (drop (i + 1) list)) g) is
        ∙ first_removed (drop (i + 1) list) now.latest.now p
        ∙ sym (ap (λ (l : List Names). changed (removal_of l) now.latest.now) first)
        ∙ reached.rest;
    run = removing_in_call step;
  }

-- what an Ok of one removal leaves
pub removed_now : (tells : Bool) (p : Names) (old new : Drive) (found : Bool) → RemoveEnds tells p old new (Ok found) → IsTrue tells → present new ≡ remove (present old) p
removed_now tells p old new true ends told = ap (λ (h : History). h.latest.now) (ends told).0
removed_now tells p old new false ends told = ap (λ (h : History). h.latest.now) (ends told).0 ∙ sym (none_removed (present old) p (ends told).1)

pub remove_fails : (tells : Bool) (list : List Names) (p : Names) (old mid new : Drive) (e : FileErr) → RemoveEnds tells p mid new (Err e) → RemoveAllEnds tells list old new (Err e)
remove_fails tells list p old mid new Failed ends = tt
remove_fails tells list p old mid new (Blocked at) ends = ends
remove_fails tells list p old mid new NoMemory ends = tt

pub remove_ends : (tells : Bool) (list : List Names) (old mid new : Drive) (r : Result (Unit {0}) FileErr) → (IsTrue tells → present mid ≡ changed (removal_of list) (present old)) → BarrierEnds tells mid new r → RemoveAllEnds tells list old new r
remove_ends tells list old mid new (Ok _) made ends = λ told. ap (λ (h : History). h.latest) (ends told) ∙ ap at_rest (made told)
remove_ends tells list old mid new (Err Failed) made ends = tt
remove_ends tells list old mid new (Err (Blocked at)) made ends = ends
remove_ends tells list old mid new (Err NoMemory) made ends = tt

-- in the midst of a command
pub removing_goes : (list : List Names) {IsFirm : Names → Type 0} {old new : Drive} → GoesAlong Everywhere (λ g. removal_of list ∷ []) old new → GoesAlong IsFirm (λ g. removal_of list ∷ []) old new
removing_goes list {IsFirm} {old} goes = goes_as refl (λ q firm. tt) (rounds_as IsFirm (present old) (present old) (removal_of list ∷ []) (λ q firm. refl)) goes
