-- What follows for grounds along rounds, with no device: each place alone, and the last round.
use Rattle.std.proofs.Common.{◌≡◌, ◌⊎◌, inl, inr, ⊎_elim, ℕ, List, [], ◌∷◌, ◌++◌, Option, refl, sym, ap, ◌∙◌}
use Rattle.places.specs.All.{Names, Ground, file_at}
use Rattle.places.proofs.Grounds.{cases_place}
use Rattle.file_store.specs.Disk.{Disk, IsImage}
use Rattle.file_store.specs.Course.{Round, with_file, changed, finally, WasOpen, LiesBetween, Along}
use Rattle.file_store.specs.Course.{still, here, there, LiesAlong, IsBetween, IsAlong}
use Rattle.file_store.proofs.Rounds.{with_file_other, LeftBy, changed_other}

-- no alternative
abbrev pub Nothing : Names → Option (List ℕ) → Type 0
Nothing q v = ⊥

along-weaken : (Lies Lie : Ground → Ground → Type 0) → ((a b : Ground) → Lies a b → Lie a b) → {g : Ground} {rounds : List Round} → Along Lies g rounds → Along Lie g rounds
along-weaken Lies Lie f (still lies) = still (f _ _ lies)
along-weaken Lies Lie f (here lies) = here (f _ _ lies)
along-weaken Lies Lie f (there rest) = there (along-weaken Lies Lie f rest)

-- what stands on a disk now, and what a crash leaves of it
module _ (IsFirm : Names → Type 0) (start : Disk) (g : Ground) (rounds : List Round) (d : Disk) (along : LiesAlong IsFirm start g rounds d) where
  pub now_along : IsAlong IsFirm Nothing g rounds d.now
  now_along = along-weaken (λ a b. LiesBetween IsFirm start a b d) (λ a b. IsBetween IsFirm Nothing a b d.now)
      (λ a b lies. record { places = λ q firm. ⊎_elim (λ is. inl is) (λ is. inr (inl is)) (lies.now q firm) }) along

  pub image_along : (x : Ground) → IsImage d x → IsAlong IsFirm (WasOpen start) g rounds x
  image_along x image = along-weaken (λ a b. LiesBetween IsFirm start a b d) (λ a b. IsBetween IsFirm (WasOpen start) a b x)
      (λ a b lies. record { places = λ q firm. lies.any q (file_at x q) firm (image.places q) }) along

-- ---- one place

abbrev pub AllLeave : List Round → Names → Type 0
AllLeave [] q = Unit {0}
AllLeave (round ∷ rounds) q = LeftBy round q × AllLeave rounds q

-- one of the rounds changes it at most
pub data AtMostOnce : List Round → Names → Type 0 where
  never : {q : Names} → AtMostOnce [] q
  not_here : {round : Round} {rounds : List Round} {q : Names} → LeftBy round q → AtMostOnce rounds q → AtMostOnce (round ∷ rounds) q
  not_later : {round : Round} {rounds : List Round} {q : Names} → AllLeave rounds q → AtMostOnce (round ∷ rounds) q

pub finally_other : (rounds : List Round) (g : Ground) (q : Names) → AllLeave rounds q → file_at (finally rounds g) q ≡ file_at g q
finally_other [] g q left = refl
finally_other (round ∷ rounds) g q left = finally_other rounds (changed round g) q left.1 ∙ changed_other round g q left.0

pub once_of : (rounds : List Round) (q : Names) → AllLeave rounds q → AtMostOnce rounds q
once_of [] q left = never
once_of (round ∷ rounds) q left = not_here left.0 (once_of rounds q left.1)

first_of_along : {Lies : Ground → Ground → Type 0} {g : Ground} {round : Round} {rounds : List Round} → Along Lies g (round ∷ rounds) → Lies g g ⊎ (Lies g (changed round g) ⊎ Along Lies (changed round g) rounds)
first_of_along (still lies) = inl lies
first_of_along (here lies) = inr (inl lies)
first_of_along (there rest) = inr (inr rest)

end_of_along : {Lies : Ground → Ground → Type 0} {g : Ground} → Along Lies g [] → Lies g g
end_of_along (still lies) = lies

module _ (IsFirm : Names → Type 0) (Else : Names → Option (List ℕ) → Type 0) (x : Ground) where
  abbrev OneOf : Ground → Ground → Names → Type 0
  OneOf a b q = (file_at x q ≡ file_at a q) ⊎ ((file_at x q ≡ file_at b q) ⊎ Else q (file_at x q))

  as_well : (a b a' b' : Ground) (q : Names) → (file_at a q ≡ file_at a' q) ⊎ (file_at a q ≡ file_at b' q) → (file_at b q ≡ file_at a' q) ⊎ (file_at b q ≡ file_at b' q) → OneOf a b q → OneOf a' b' q
  as_well a b a' b' q first second is = ⊎_elim
      (λ e. ⊎_elim (λ s. inl (e ∙ s)) (λ s. inr (inl (e ∙ s))) first)
      (λ rest. ⊎_elim (λ e. ⊎_elim (λ s. inl (e ∙ s)) (λ s. inr (inl (e ∙ s))) second) (λ other. inr (inr other)) rest)
      is

  -- a place that is changed once has what it had at the start or has at the end
  pub each_place : (q : Names) → IsFirm q → {g : Ground} {rounds : List Round} → AtMostOnce rounds q → IsAlong IsFirm Else g rounds x → OneOf g (finally rounds g) q
  each_place q firm {g} {rounds} once (still lies) = as_well g g g (finally rounds g) q (inl refl) (inl refl) (lies.places q firm)
  each_place q firm {g} {rounds} (not_here {round = round} {rounds = rest} left once) (here lies) =
      as_well g (changed round g) g (finally rounds g) q (inl refl) (inl (changed_other round g q left)) (lies.places q firm)
  each_place q firm {g} {rounds} (not_later {round = round} {rounds = rest} left) (here lies) =
      as_well g (changed round g) g (finally rounds g) q (inl refl) (inr (sym (finally_other rest (changed round g) q left))) (lies.places q firm)
  each_place q firm {g} {rounds} (not_here {round = round} {rounds = rest} left once) (there along) =
      as_well (changed round g) (finally rounds g) g (finally rounds g) q (inl (changed_other round g q left)) (inr refl) (each_place q firm once along)
  each_place q firm {g} {rounds} (not_later {round = round} {rounds = rest} left) (there along) =
      as_well (changed round g) (finally rounds g) g (finally rounds g) q (inr (sym (finally_other rest (changed round g) q left))) (inr refl) (each_place q firm (once_of rest q left) along)

  -- ---- the last round

  abbrev AllOf : Ground → Type 0
  AllOf b = (q : Names) → IsFirm q → (file_at x q ≡ file_at b q) ⊎ Else q (file_at x q)

  one_of : (a : Ground) (q : Names) → OneOf a a q → (file_at x q ≡ file_at a q) ⊎ Else q (file_at x q)
  one_of a q is = ⊎_elim (λ e. inl e) (λ rest. rest) is

  abbrev Lies : Ground → Ground → Type 0
  Lies a b = IsBetween IsFirm Else a b x

  module _ (p : Names) (v : Option (List ℕ)) (firm : IsFirm p) where
    abbrev Old : Ground → Type 0
    Old g = (file_at x p ≡ file_at g p) ⊎ Else p (file_at x p)

    in_last : (g : Ground) → Lies g (with_file p v g) → Old g ⊎ AllOf (with_file p v g)
    in_last g lies = by (lies.places p firm)
      where
        by : OneOf g (with_file p v g) p → Old g ⊎ AllOf (with_file p v g)
        by (inl old) = inl (inl old)
        by (inr (inr other)) = inl (inr other)
        by (inr (inl new)) = inr (λ q at. elim (cases_place q p) [
          | inl is ↦ inl (ap (file_at x) is ∙ new ∙ ap (file_at (with_file p v g)) (sym is))
          | inr differ ↦ one_of (with_file p v g) q (as_well g (with_file p v g) (with_file p v g) (with_file p v g) q (inl (sym (with_file_other p v g q differ))) (inl refl) (lies.places q at))
        ])

    further : (round : Round) (g : Ground) → LeftBy round p → (b : Ground) → Old (changed round g) ⊎ AllOf b → Old g ⊎ AllOf b
    further round g left b (inl (inl old)) = inl (inl (old ∙ changed_other round g p left))
    further round g left b (inl (inr other)) = inl (inr other)
    further round g left b (inr all) = inr all

    -- a place that only the last round changes, as its only one, is new only where all is new
    pub last_place : (front : List Round) → AllLeave front p → (g : Ground) → IsAlong IsFirm Else g (front ++ ((p, v) ∷ []) ∷ []) x → Old g ⊎ AllOf (finally (front ++ ((p, v) ∷ []) ∷ []) g)
    last_place [] left g along = by (first_of_along along)
      where
        by : Lies g g ⊎ (Lies g (with_file p v g) ⊎ Along Lies (with_file p v g) []) → Old g ⊎ AllOf (with_file p v g)
        by (inl lies) = inl (one_of g p (lies.places p firm))
        by (inr (inl lies)) = in_last g lies
        by (inr (inr rest)) = let lies = end_of_along rest in inr (λ q at. one_of (with_file p v g) q (lies.places q at))
    last_place (round ∷ front) left g along = by (first_of_along along) (λ rest. last_place front left.1 (changed round g) rest)
      where
        by : Lies g g ⊎ (Lies g (changed round g) ⊎ Along Lies (changed round g) (front ++ ((p, v) ∷ []) ∷ []))
            → (Along Lies (changed round g) (front ++ ((p, v) ∷ []) ∷ []) → Old (changed round g) ⊎ AllOf (finally (front ++ ((p, v) ∷ []) ∷ []) (changed round g)))
            → Old g ⊎ AllOf (finally (front ++ ((p, v) ∷ []) ∷ []) (changed round g))
        by (inl lies) rest = inl (one_of g p (lies.places p firm))
        by (inr (inl lies)) rest = inl (one_of g p (as_well g (changed round g) g g p (inl refl) (inl (changed_other round g p left.0)) (lies.places p firm)))
        by (inr (inr along)) rest = further round g left.0 (finally (front ++ ((p, v) ∷ []) ∷ []) (changed round g)) (rest along)
