-- What a course says of a place.
use Rattle.std.proofs.Common.{◌≡◌, inl, inr, ℕ, Bool, false, List, [], ◌∷◌, Option, Result, sym, ◌∙◌}
use Rattle.std.proofs.lemmas.Bool.{false≢true, cases_Bool}
use Rattle.places.specs.All.{Ground, file_at, Names}
use Rattle.file_store.specs.All.{Round, changed, LiesBetween, still, here, there, LiesAlong, Disk}
use Rattle.file_store.specs.All.{Drive, MayHave, is_open, Since, present}
use Rattle.faults.specs.declared.faults.Trouble.{Trouble}
use Rattle.faults.specs.declared.lines.Line.{Line}
use Rattle.file_store.proofs.Images.{MayHave-now}
use Rattle.file_store.proofs.Moments.{weaken}
use Rattle.acts.specs.Acts.{Act, rounds_in}
use Rattle.acts.specs.Ends.{IsFirm, Rests, Goes}

-- each ground of a course has it
abbrev pub EachGround : (Ground → Type 0) → Ground → List Round → Type 0
EachGround P g [] = P g
EachGround P g (round ∷ rounds) = P g × EachGround P (changed round g) rounds

first_has : (P : Ground → Type 0) (g : Ground) (rounds : List Round) → EachGround P g rounds → P g
first_has P g [] all = all
first_has P g (round ∷ rounds) all = all.0

module _ (f : Names → Bool) (start : Disk) (q : Names) (firm : IsFirm f q) (shut : is_open start q ≡ false) (d : Disk) (v : Option (List ℕ)) (has : MayHave d q v) where
  between : (bytes : Option (List ℕ)) (a b : Ground) → LiesBetween (IsFirm f) start a b d → file_at a q ≡ bytes → file_at b q ≡ bytes → v ≡ bytes
  between bytes a b lies at_a at_b = elim (lies.any q v firm has) [
    | inl is ↦ is ∙ at_a
    | inr (inl is) ↦ is ∙ at_b
    | inr (inr was) ↦ absurd (false≢true (sym shut ∙ was.0))
  ]

  -- what a crash leaves at a place that was closed is what stands there in one of the grounds
  pub along_has : (bytes : Option (List ℕ)) (g : Ground) (rounds : List Round) → LiesAlong (IsFirm f) start g rounds d → EachGround (λ h. file_at h q ≡ bytes) g rounds → v ≡ bytes
  along_has bytes g rounds (still lies) all = let here_is = first_has (λ h. file_at h q ≡ bytes) g rounds all in between bytes g g lies here_is here_is
  along_has bytes g (round ∷ rounds) (here lies) all = between bytes g (changed round g) lies all.0 (first_has (λ h. file_at h q ≡ bytes) (changed round g) rounds all.1)
  along_has bytes g (round ∷ rounds) (there along) all = along_has bytes (changed round g) rounds along all.1

-- NOTHING IS LOST: what each ground of the course has at a place, a crash at any moment leaves there
pub kept_there : {V : Type 0} {act : Act V} {l0 l1 : List Line} {d0 d1 : Drive} {r : Result V Trouble} (q : Names) (bytes : Option (List ℕ)) → Goes act l0 l1 d0 d1 r → IsFirm act.loose q → is_open d0.history.latest q ≡ false
    → EachGround (λ h. file_at h q ≡ bytes) (present d0) (rounds_in act) → Since (λ d. (v : Option (List ℕ)) → MayHave d q v → v ≡ bytes) d0.history d1.history
kept_there {V} {act} {l0} {l1} {d0} {d1} {r} q bytes goes firm shut all =
    weaken (λ d along v has. along_has act.loose d0.history.latest q firm shut d v has bytes (present d0) (rounds_in act) along all) goes.moments.along.moments

-- where nothing was open at the start, nothing is open at the end
pub settled : (f : Names → Bool) (a b : Disk) (q : Names) → Rests f a b → IsFirm f q → is_open a q ≡ false → is_open b q ≡ false
settled f a b q rests firm shut = elim (cases_Bool (is_open b q)) [
  | inl opened ↦ absurd (false≢true (sym shut ∙ (rests q (file_at b.now q) firm opened (MayHave-now b q)).0))
  | inr closed ↦ closed
]
