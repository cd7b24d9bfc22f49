-- What is left of a ground when a dataset was being made, however far that came.
use Rattle.std.specs.Prelude.{◌≡◌, ◌⊎◌, ℕ, false, List, Option}
use Rattle.places.specs.All.{Names, is_above, Ground, file_at}
use Rattle.git_objects.specs.declared.objects.ObjKind.{ObjKind}
use Rattle.repository.specs.All.{object_place, head_place, IsHeld}
use Rattle.acts.specs.All.{last_of, IsFixed, OldOrNew, NewWithAll}
use Rattle.recursive_save.specs.First.{NewDataset}
use Rattle.recursive_save.specs.Creating.{create_step}

-- What any repository held it holds; or something else may be at the object's place.
abbrev pub HeldStay : (Names → Option (List ℕ) → Type 0) → Ground → Ground → Type 0
HeldStay Else g x =
    (repo : Names) (id : List ℕ) (kind : ObjKind) (body : List ℕ) → IsFixed (object_place repo id)
    → IsHeld g repo id kind body
    → IsHeld x repo id kind body ⊎ Else (object_place repo id) (file_at x (object_place repo id))

-- Nothing outside a root has changed.
abbrev pub SameOutside : Names → (Names → Option (List ℕ) → Type 0) → Ground → Ground → Type 0
SameOutside root Else g x =
    (q : Names) → IsFixed q → is_above root q ≡ false → (file_at x q ≡ file_at g q)
    ⊎ Else q (file_at x q)

-- Of the ground g at the start, x: each place is old or new, nothing outside the root has changed,
-- HEAD is old unless all the rest is new, and what was held is held.
pub record CreateRemains (dataset : NewDataset) (Else : Names → Option (List ℕ)
    → Type 0) (g x : Ground)
    : Type 0 where
  pub places : OldOrNew Else g (last_of (create_step dataset g) g) x
  pub outside : SameOutside dataset.root Else g x
  pub head : NewWithAll Else (head_place dataset.root) g (last_of (create_step dataset g) g) x
  pub held : HeldStay Else g x
