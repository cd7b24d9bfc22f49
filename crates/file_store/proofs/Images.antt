-- What a crash may leave at one place after a call.
use Rattle.std.proofs.Common.{◌≡◌, ◌≢◌, ◌⊎◌, inl, inr, ℕ, Bool, true, false, not, ◌||◌, List, Option, Some, None, refl, sym, ◌∙◌, ap, subst}
use Rattle.std.specs.Prelude.{IsTrue}
use Rattle.std.specs.FinMap.{insert, remove}
use Rattle.std.proofs.lemmas.Bool.{false≢true, or_from, and_left, and_right, not_from_true}
use Rattle.std.proofs.lemmas.Slice.Eq.{bytes_eq-Decides}
use Rattle.places.specs.All.{Names, place_eq, Ground, file_at}
use Rattle.places.proofs.Grounds.{other, cases_place, file_at-insert_same, file_at-insert_other, file_at-remove_other}
use Rattle.file_store.specs.Disk.{Disk, MayHave, IsClosed, at_rest, wrote, removed, renamed, moved}
use Rattle.file_store.specs.Disk.{synced, same_file}

-- the place of a write is the only one that changes
pub MayHave-wrote : (p : Names) (bytes : List ℕ) (d : Disk) (q : Names) (v : Option (List ℕ)) → q ≢ p → MayHave (wrote p bytes d) q v → MayHave d q v
MayHave-wrote p bytes d q v apart (inl safe) = inl safe
MayHave-wrote p bytes d q v apart (inr (inl now)) = inr (inl (now ∙ file_at-insert_other d.now p bytes q apart))
MayHave-wrote p bytes d q v apart (inr (inr torn)) = inr (inr (subst (λ b. IsTrue (b || d.torn q)) (other q p apart) torn))

pub MayHave-removed : (p : Names) (d : Disk) (q : Names) (v : Option (List ℕ)) → q ≢ p → MayHave (removed p d) q v → MayHave d q v
MayHave-removed p d q v apart (inl safe) = inl safe
MayHave-removed p d q v apart (inr (inl now)) = inr (inl (now ∙ file_at-remove_other d.now p q apart))
MayHave-removed p d q v apart (inr (inr torn)) = inr (inr torn)

-- at rest there is one choice
pub MayHave-at_rest : (g : Ground) (q : Names) (v : Option (List ℕ)) → MayHave (at_rest g) q v → v ≡ file_at g q
MayHave-at_rest g q v (inl safe) = safe
MayHave-at_rest g q v (inr (inl now)) = now
MayHave-at_rest g q v (inr (inr torn)) = absurd (false≢true torn)

-- a barrier takes choices away
pub MayHave-synced : (d : Disk) (q : Names) (v : Option (List ℕ)) → MayHave (synced d) q v → MayHave d q v
MayHave-synced d q v has = inr (inl (MayHave-at_rest d.now q v has))

-- what stands there now is one of the choices
pub MayHave-now : (d : Disk) (p : Names) → MayHave d p (file_at d.now p)
MayHave-now d p = inr (inl refl)

-- where a crash has no choice
pub MayHave-closed : (d : Disk) (p : Names) (v : Option (List ℕ)) → IsClosed d p → MayHave d p v → v ≡ file_at d.now p
MayHave-closed d p v closed (inl safe) = safe ∙ sym closed.same
MayHave-closed d p v closed (inr (inl now)) = now
MayHave-closed d p v closed (inr (inr torn)) = absurd (false≢true (sym closed.whole ∙ torn))

pub IsClosed-at_rest : (g : Ground) (p : Names) → IsClosed (at_rest g) p
IsClosed-at_rest g p = record { same = refl; whole = refl }

same_file-refl : (f : Option (List ℕ)) → same_file f f ≡ true
same_file-refl None = refl
same_file-refl (Some a) = (bytes_eq-Decides a a).1 refl

same_file-equal : (f g : Option (List ℕ)) → f ≡ g → same_file f g ≡ true
same_file-equal f g is = sym (ap (same_file f) is) ∙ same_file-refl f

module _ (from to : Names) (bytes : List ℕ) (d : Disk) where
  mark : Bool
  mark = d.torn from || not (same_file (file_at d.now to) (file_at d.safe to))

  torn-moved_other : (q : Names) → q ≢ to → (moved from to (Some bytes) d).torn q ≡ d.torn q
  unfolding mark
  torn-moved_other q apart = ap (λ b. b || d.torn q) (and_left (place_eq q to) _ (other q to apart))

  module _ (whole : d.torn from ≡ false) (closed : IsClosed d to) where
    -- the rename tears nothing
    unmarked : mark ≡ false
    unfolding mark
    unmarked = or_from _ _ whole (not_from_true _ (same_file-equal _ _ closed.same))

    torn-moved : (q : Names) → (moved from to (Some bytes) d).torn q ≡ d.torn q
    unfolding mark
    torn-moved q = ap (λ b. b || d.torn q) (and_right (place_eq q to) _ unmarked)

    after_move : (q : Names) (v : Option (List ℕ)) → q ≢ from → MayHave (moved from to (Some bytes) d) q v → MayHave d q v ⊎ ((q ≡ to) × (v ≡ Some bytes))
    after_move q v apart (inl safe) = inl (inl safe)
    after_move q v apart (inr (inr torn)) = inl (inr (inr (sym (torn-moved q) ∙ torn)))
    after_move q v apart (inr (inl now)) = elim (cases_place q to) [
      | inl here ↦ inr (here, now ∙ file_at-insert_same (remove d.now from) to bytes q here)
      | inr there ↦ inl (inr (inl (now ∙ file_at-insert_other (remove d.now from) to bytes q there ∙ file_at-remove_other d.now from q apart)))
    ]

module _ (from to : Names) (bytes : List ℕ) (d : Disk) (stands : file_at d.now from ≡ Some bytes) where
  pub renamed-moved : renamed from to d ≡ moved from to (Some bytes) d
  renamed-moved = ap (λ f. moved from to f d) stands

  pub now-renamed : (renamed from to d).now ≡ insert (remove d.now from) to bytes
  now-renamed = ap (λ f. (moved from to f d).now) stands

  pub safe-renamed : (renamed from to d).safe ≡ d.safe
  safe-renamed = ap (λ f. (moved from to f d).safe) stands

  pub torn-renamed_other : (q : Names) → q ≢ to → (renamed from to d).torn q ≡ d.torn q
  torn-renamed_other q apart = ap (λ f. (moved from to f d).torn q) stands ∙ torn-moved_other from to bytes d q apart

  pub file_at-renamed_same : (q : Names) → q ≡ to → file_at (renamed from to d).now q ≡ Some bytes
  file_at-renamed_same q here = ap (λ (g : Ground). file_at g q) now-renamed ∙ file_at-insert_same (remove d.now from) to bytes q here

  pub file_at-renamed_other : (q : Names) → q ≢ from → q ≢ to → file_at (renamed from to d).now q ≡ file_at d.now q
  file_at-renamed_other q from_apart to_apart = ap (λ (g : Ground). file_at g q) now-renamed ∙ file_at-insert_other (remove d.now from) to bytes q to_apart ∙ file_at-remove_other d.now from q from_apart

  pub IsClosed-renamed_other : (q : Names) → q ≢ from → q ≢ to → IsClosed d q → IsClosed (renamed from to d) q
  IsClosed-renamed_other q from_apart to_apart c = record {
    same = file_at-renamed_other q from_apart to_apart ∙ c.same ∙ sym (ap (λ (g : Ground). file_at g q) safe-renamed);
    whole = torn-renamed_other q to_apart ∙ c.whole;
  }

  -- a rename of a whole file onto a closed place: the target is old or new, and the other places but the source are as they were
  pub MayHave-renamed : (whole : d.torn from ≡ false) (closed : IsClosed d to) (q : Names) (v : Option (List ℕ)) → q ≢ from → MayHave (renamed from to d) q v → MayHave d q v ⊎ ((q ≡ to) × (v ≡ Some bytes))
  MayHave-renamed whole closed q v apart has = after_move from to bytes d whole closed q v apart (subst (λ f. MayHave (moved from to f d) q v) stands has)
