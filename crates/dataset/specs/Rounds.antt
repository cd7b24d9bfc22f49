-- Which rounds keep a ground sound at every moment.
use Rattle.std.specs.Prelude.{◌≡◌, ◌⊎◌, ℕ, false, List, [], ◌∷◌, Option, None, Some}
use Rattle.places.specs.All.{Names, Ground, file_at}
use Rattle.git_objects.specs.All.{Fields, IsCommitText}
use Rattle.git_objects.specs.declared.objects.ObjKind.TheVariants.{Commit as CommitKind}
use Rattle.file_store.specs.All.{Round, changed, IsBetween}
use Rattle.repository.specs.All.{Head, head_of, id_text, tip_place}
use Rattle.acts.specs.All.{Nothing}
use Rattle.object_store.specs.All.{place_in, object_text, objects_round}
use Rattle.object_store.specs.declared.objects.NewObject.{NewObject}
use Rattle.dataset.specs.Watched.{is_watched, IsWatched}
use Rattle.dataset.specs.Whole.{Has, IsWhole, AreWhole}
use Rattle.dataset.specs.Sound.{Sound, HoldsAll, HoldsContents, SameHeads}

-- At each watched place stands what one of two grounds has there.
abbrev pub LiesWatched : Ground → Ground → Ground → Type 0
LiesWatched a b x = IsBetween IsWatched Nothing a b x

-- A ground on the way from one to another is intact: it is sound, its heads are those of one of the
-- two, and it has lost no object, and no content that matched its key.
pub record IsIntact (a b x : Ground) : Type 0 where
  pub sound : Sound x
  pub heads : SameHeads x a ⊎ SameHeads x b
  pub held : HoldsAll a x
  pub contents : HoldsContents a x

-- A round keeps a sound ground so: whatever lies between is intact.
abbrev pub KeepsSound : Round → Ground → Type 0
KeepsSound round g =
    Sound g → (x : Ground) → LiesWatched g (changed round g) x → IsIntact g (changed round g) x

-- Each round does, on the ground that those before it have made.
abbrev pub AllKeepSound : List Round → Ground → Type 0
AllKeepSound [] g = Unit {0}
AllKeepSound (round ∷ rounds) g = KeepsSound round g × AllKeepSound rounds (changed round g)

-- P holds of one of the grounds that rounds make.
pub data OneOf (P : Ground → Type 0) : Ground → List Round → Type 0 where
  first : {g : Ground} {rounds : List Round} → P g → OneOf P g rounds
  later : {g : Ground} {round : Round} {rounds : List Round} → OneOf P (changed round g) rounds
      → OneOf P g (round ∷ rounds)

-- A ground on the way of some rounds is intact: it is sound, its heads are those of one of their
-- grounds, and nothing that was held at the start is lost, and no content that matched its key.
pub record IsIntactAlong (g : Ground) (rounds : List Round) (x : Ground) : Type 0 where
  pub sound : Sound x
  pub heads : OneOf (λ a. SameHeads x a) g rounds
  pub held : HoldsAll g x
  pub contents : HoldsContents g x

-- The file of one of the objects, at its place.
pub record IsPut (repo : Names) (objects : List NewObject) (q : Names) (v : Option (List ℕ))
    : Type 0 where
  pub object : NewObject
  pub has : Has objects object
  pub place : q ≡ place_in repo object
  pub text : v ≡ Some (object_text object)

-- At each watched place stands what stood there, or one of the objects.
abbrev pub HasSome : Names → List NewObject → Ground → Ground → Type 0
HasSome repo objects g x =
    (q : Names) → IsWatched q → (file_at x q ≡ file_at g q) ⊎ IsPut repo objects q (file_at x q)

-- At the places of these objects stands nothing else.
abbrev pub AreFree : Names → List NewObject → Ground → Type 0
AreFree repo objects g =
    (o : NewObject) → Has objects o → (file_at g (place_in repo o) ≡ None)
    ⊎ (file_at g (place_in repo o) ≡ Some (object_text o))

-- The parents of the commits among these objects are whole.
abbrev pub HaveWholeParents : Names → List NewObject → Ground → Type 0
HaveWholeParents repo objects g =
    (o : NewObject) → Has objects o → o.kind ≡ CommitKind → (fields : Fields)
    → IsCommitText o.body fields → AreWhole repo fields.parents g

-- Objects can be put where nothing else stands at their places and the parents of the commits among
-- them are whole.
pub record CanPut (repo : Names) (objects : List NewObject) (g : Ground) : Type 0 where
  pub free : AreFree repo objects g
  pub parents : HaveWholeParents repo objects g

-- The tip of a branch, or of a detached HEAD, gets another commit.
abbrev pub tip_round : Names → Option (List ℕ) → List ℕ → Round
tip_round repo branch id = (tip_place repo branch, Some (id_text id)) ∷ []

-- A tip can be set where HEAD stands in form, this is the tip of its branch or its own, and the new
-- commit is whole.
pub record CanSet (repo : Names) (branch : Option (List ℕ)) (id : List ℕ) (g : Ground)
    : Type 0 where
  pub head : Head
  pub leads : head_of g repo ≡ Some head
  pub same : head.branch ≡ branch
  pub whole : IsWhole repo id g

-- The objects, and then the tip.
abbrev pub save_rounds : Names → Option (List ℕ) → List NewObject → List ℕ → List Round
save_rounds repo branch objects id =
    objects_round repo objects ∷ tip_round repo branch id ∷ []

-- A round of which no place is watched.
abbrev pub IsUnwatched : Round → Type 0
IsUnwatched [] = Unit {0}
IsUnwatched (change ∷ changes) = (is_watched change.0 ≡ false) × IsUnwatched changes

-- Rounds of which no place is watched.
abbrev pub AreUnwatched : List Round → Type 0
AreUnwatched [] = Unit {0}
AreUnwatched (round ∷ rounds) = IsUnwatched round × AreUnwatched rounds
