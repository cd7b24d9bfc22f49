-- Rounds: what stands at a place after them.
use Rattle.std.proofs.Common.{◌≡◌, ◌≢◌, ℕ, cond, List, [], ◌∷◌, ◌++◌, Option, None, Some, refl, sym, ap, ◌∙◌}
use Rattle.places.specs.All.{Names, place_eq, Ground, file_at}
use Rattle.places.proofs.Grounds.{same, other, file_at-insert, file_at-remove}
use Rattle.file_store.specs.Course.{Round, with_file, changed, finally}

pub file_at-with_file : (p : Names) (v : Option (List ℕ)) (g : Ground) (q : Names) → file_at (with_file p v g) q ≡ cond (place_eq q p) v (file_at g q)
file_at-with_file p (Some bytes) g q = file_at-insert g p bytes q
file_at-with_file p None g q = file_at-remove g p q

pub with_file_same : (p : Names) (v : Option (List ℕ)) (g : Ground) (q : Names) → q ≡ p → file_at (with_file p v g) q ≡ v
with_file_same p v g q is = file_at-with_file p v g q ∙ ap (λ b. cond b v (file_at g q)) (same q p is)

pub with_file_other : (p : Names) (v : Option (List ℕ)) (g : Ground) (q : Names) → q ≢ p → file_at (with_file p v g) q ≡ file_at g q
with_file_other p v g q apart = file_at-with_file p v g q ∙ ap (λ b. cond b v (file_at g q)) (other q p apart)

-- what stands there depends on what stood there alone
pub changed-as : (round : Round) (g h : Ground) (q : Names) → file_at g q ≡ file_at h q → file_at (changed round g) q ≡ file_at (changed round h) q
changed-as [] g h q is = is
changed-as (c ∷ round) g h q is =
    file_at-with_file c.0 c.1 (changed round g) q
    ∙ ap (λ o. cond (place_eq q c.0) c.1 o) (changed-as round g h q is)
    ∙ sym (file_at-with_file c.0 c.1 (changed round h) q)

pub finally-append : (first second : List Round) (g : Ground) → finally (first ++ second) g ≡ finally second (finally first g)
finally-append [] second g = refl
finally-append (round ∷ first) second g = finally-append first second (changed round g)

pub finally-as : (rounds : List Round) (g h : Ground) (q : Names) → file_at g q ≡ file_at h q → file_at (finally rounds g) q ≡ file_at (finally rounds h) q
finally-as [] g h q is = is
finally-as (round ∷ rounds) g h q is = finally-as rounds (changed round g) (changed round h) q (changed-as round g h q is)

-- a place that a round leaves alone
abbrev pub LeftBy : Round → Names → Type 0
LeftBy [] q = Unit {0}
LeftBy (c ∷ round) q = (q ≢ c.0) × LeftBy round q

pub changed_other : (round : Round) (g : Ground) (q : Names) → LeftBy round q → file_at (changed round g) q ≡ file_at g q
changed_other [] g q left = refl
changed_other (c ∷ round) g q left = with_file_other c.0 c.1 (changed round g) q left.0 ∙ changed_other round g q left.1
