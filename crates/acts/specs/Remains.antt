-- What is left of a ground at the places of which something is said: words for what acts leave,
-- however far they came.
use Rattle.std.specs.Prelude.{◌≡◌, ◌⊎◌, ℕ, List, Option}
use Rattle.places.specs.All.{Names, Ground, file_at}
use Rattle.acts.specs.Acts.{none_loose}
use Rattle.acts.specs.Ends.{IsFirm}

-- A place outside the unfinished writes of any repository.
abbrev pub IsFixed : Names → Type 0
IsFixed q = IsFirm none_loose q

-- No place may have anything else.
abbrev pub Nothing : Names → Option (List ℕ) → Type 0
Nothing q v = ⊥

-- Each place has what the one ground has there, or else something that it may have.
abbrev pub IsSame : (Names → Option (List ℕ) → Type 0) → Ground → Ground → Type 0
IsSame Else g x = (q : Names) → IsFixed q → (file_at x q ≡ file_at g q) ⊎ Else q (file_at x q)

-- Each place has what the one ground has there, or the other, or else something that it may have.
abbrev pub OldOrNew : (Names → Option (List ℕ) → Type 0) → Ground → Ground → Ground → Type 0
OldOrNew Else g end x =
    (q : Names) → IsFixed q
    → (file_at x q ≡ file_at g q) ⊎ ((file_at x q ≡ file_at end q) ⊎ Else q (file_at x q))

-- A place is as it was, or all places are as in the other ground.
abbrev pub NewWithAll : (Names → Option (List ℕ) → Type 0) → Names → Ground → Ground → Ground
    → Type 0
NewWithAll Else p g end x =
    ((file_at x p ≡ file_at g p) ⊎ Else p (file_at x p))
    ⊎ ((q : Names) → IsFixed q → (file_at x q ≡ file_at end q) ⊎ Else q (file_at x q))
