-- Commands that go from ground to ground, round by round, and what stands at every moment on the
-- way.
use Rattle.std.specs.Prelude.{◌≡◌, ◌⊎◌, ℕ, IsTrue, List, [], ◌∷◌, Option, None, Some}
use Rattle.std.specs.FinMap.{insert, remove}
use Rattle.places.specs.All.{Names, Ground, file_at}
use Rattle.file_store.specs.Disk.{Disk, Drive, Since, MayHave, is_open}
use Rattle.file_store.specs.Ends.{present}

-- A place gets a file, or loses it.
abbrev pub with_file : Names → Option (List ℕ) → Ground → Ground
with_file p (Some bytes) g = insert g p bytes
with_file p None g = remove g p

-- Places with what each gets, in one round.
abbrev pub Round : Type 0
Round = List (Names × Option (List ℕ))

-- The ground after a round: of two changes of one place the first counts.
abbrev pub changed : Round → Ground → Ground
changed [] g = g
changed (change ∷ changes) g = with_file change.0 change.1 (changed changes g)

-- The ground after some rounds.
abbrev pub finally : List Round → Ground → Ground
finally [] g = g
finally (round ∷ rounds) g = finally rounds (changed round g)

-- What a crash might have left at the start, where that was open.
abbrev pub WasOpen : Disk → Names → Option (List ℕ) → Type 0
WasOpen start q v = IsTrue (is_open start q) × MayHave start q v

-- At each firm place stands what one of two grounds has there, and a crash leaves that, or what was
-- open at the start.
pub record LiesBetween (IsFirm : Names → Type 0) (start : Disk) (a b : Ground) (d : Disk)
    : Type 0 where
  pub now : (q : Names) → IsFirm q → (file_at d.now q ≡ file_at a q)
      ⊎ (file_at d.now q ≡ file_at b q)
  pub any : (q : Names) (v : Option (List ℕ)) → IsFirm q → MayHave d q v
      → (v ≡ file_at a q) ⊎ ((v ≡ file_at b q) ⊎ WasOpen start q v)

-- A relation holds of two neighbours among the grounds that rounds make of a first one, or of one
-- of these twice.
pub data Along (Lies : Ground → Ground → Type 0) : Ground → List Round → Type 0 where
  still : {g : Ground} {rounds : List Round} → Lies g g → Along Lies g rounds
  here : {g : Ground} {round : Round} {rounds : List Round} → Lies g (changed round g)
      → Along Lies g (round ∷ rounds)
  there : {g : Ground} {round : Round} {rounds : List Round} → Along Lies (changed round g) rounds
      → Along Lies g (round ∷ rounds)

-- A disk lies between two of them.
abbrev pub LiesAlong : (Names → Type 0) → Disk → Ground → List Round → Disk → Type 0
LiesAlong IsFirm start g rounds d = Along (λ a b. LiesBetween IsFirm start a b d) g rounds

-- A disk has come to a ground: what is open there was open at the start, and a crash leaves no more
-- of it than then.
pub record Arrives (IsFirm : Names → Type 0) (start : Disk) (g : Ground) (d : Disk) : Type 0 where
  pub stands : (q : Names) → IsFirm q → file_at d.now q ≡ file_at g q
  pub rests : (q : Names) (v : Option (List ℕ)) → IsFirm q → IsTrue (is_open d q) → MayHave d q v
      → WasOpen start q v

-- At every moment since the start of a call the disk lies along these rounds.
pub record GoesAlong (IsFirm : Names → Type 0) (rounds : Ground → List Round) (old new : Drive)
    : Type 0 where
  pub moments : Since (LiesAlong IsFirm old.history.latest (present old) (rounds
      (present old))) old.history new.history

-- A ground, such as what a crash leaves, has at each firm place what one of two grounds has there,
-- or something else.
pub record IsBetween (IsFirm : Names → Type 0) (Else : Names → Option (List ℕ) → Type 0)
    (a b x : Ground) : Type 0 where
  pub places : (q : Names) → IsFirm q → (file_at x q ≡ file_at a q)
      ⊎ ((file_at x q ≡ file_at b q) ⊎ Else q (file_at x q))

-- A ground lies between two neighbours among those that rounds make of a first one.
abbrev pub IsAlong : (Names → Type 0) → (Names → Option (List ℕ) → Type 0) → Ground → List Round
    → Ground → Type 0
IsAlong IsFirm Else g rounds x = Along (λ a b. IsBetween IsFirm Else a b x) g rounds
