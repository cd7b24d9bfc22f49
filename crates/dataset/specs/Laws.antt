-- What keeps a ground sound.
use Rattle.std.specs.Prelude.{◌≡◌, ℕ, List, [], ◌∷◌, ◌++◌, None, Some, Option}
use Rattle.std.specs.FinMap.{insert}
use Rattle.places.specs.All.{Names, Ground, file_at}
use Rattle.git_objects.specs.All.{Fields}
use Rattle.git_objects.specs.declared.ids.Id.{Id}
use Rattle.file_store.specs.All.{Round, changed, finally, IsAlong}
use Rattle.repository.specs.All.{repo_of, LessTmp}
use Rattle.acts.specs.All.{Nothing}
use Rattle.object_store.specs.All.{objects_round, IsCommitAt}
use Rattle.object_store.specs.declared.objects.NewObject.{NewObject}
use Rattle.dataset.specs.Watched.{IsRoot, IsWatched, SameWatched}
use Rattle.dataset.specs.Whole.{Has, IsFull, IsWhole, AreWhole, HasAncestor, IsWholeByWalks}
use Rattle.dataset.specs.Sound.{Sound, HoldsAllIn, HoldsAll, HoldsContents, SameHeads}
use Rattle.dataset.specs.Rounds.{IsIntact, KeepsSound, AllKeepSound, IsIntactAlong, HasSome, CanPut}
use Rattle.dataset.specs.Rounds.{tip_round, CanSet, IsUnwatched, AreUnwatched}

-- What is whole stays whole while nothing that is held is lost.
abbrev pub WholeStays : Type 0
WholeStays =
    (repo : Names) (id : List ℕ) (a b : Ground) → HoldsAllIn repo a b → IsWhole repo id a
    → IsWhole repo id b

-- Each ancestor of a whole commit is whole, its tree is full; and a commit that is held with its
-- tree is whole where its parents are.
pub record WholeMeans : Type 0 where
  pub ancestors : (repo : Names) (g : Ground) (c d : List ℕ) → HasAncestor repo g c d
      → IsWhole repo c g → IsWhole repo d g
  pub tree : (repo : Names) (g : Ground) (c : List ℕ) (fields : Fields)
      → IsCommitAt repo c g fields → IsWhole repo c g → IsFull repo fields.tree.0 g
  pub extend : (repo : Names) (g : Ground) (c : List ℕ) (fields : Fields)
      → IsCommitAt repo c g fields → IsFull repo fields.tree.0 g
      → AreWhole repo fields.parents g → IsWhole repo c g

-- Walks follow from whole commits, and serve as well.
pub record WalksServe : Type 0 where
  pub from : (repo : Names) (c : List ℕ) (g : Ground) → IsWhole repo c g → IsWholeByWalks repo c g
  pub stays : (repo : Names) (c : List ℕ) (a b : Ground) → HoldsAllIn repo a b
      → IsWholeByWalks repo c a → IsWholeByWalks repo c b
  pub extend : (repo : Names) (c : List ℕ) (fields : Fields) (g : Ground)
      → IsCommitAt repo c g fields → IsFull repo fields.tree.0 g
      → ((p : Id) → Has fields.parents p → IsWholeByWalks repo p.0 g) → IsWholeByWalks repo c g

-- A ground with the same at each watched place is as sound, and has the same heads, objects and
-- contents.
pub record LooksNowhereElse : Type 0 where
  pub sound : (a b : Ground) → SameWatched b a → Sound a → Sound b
  pub heads : (a b : Ground) → SameWatched b a → SameHeads b a
  pub held : (a b : Ground) → SameWatched b a → HoldsAll a b
  pub contents : (a b : Ground) → SameWatched b a → HoldsContents a b

-- So is a ground that has lost files of unfinished writes.
pub record LessTmpIsSound : Type 0 where
  pub sound : (root : Names) (a b : Ground) → LessTmp (repo_of root) a b → Sound a → Sound b
  pub heads : (root : Names) (a b : Ground) → LessTmp (repo_of root) a b → SameHeads b a
  pub held : (root : Names) (a b : Ground) → LessTmp (repo_of root) a b → HoldsAll a b
  pub contents : (root : Names) (a b : Ground) → LessTmp (repo_of root) a b → HoldsContents a b

-- Where no file stands, nothing is unsound.
abbrev pub EmptyIsSound : Type 0
EmptyIsSound = (g : Ground) → ((q : Names) → file_at g q ≡ None) → Sound g

-- Objects that can be put keep a ground sound, whichever of them stand.
abbrev pub ObjectsKeep : Type 0
ObjectsKeep =
    (root : Names) (objects : List NewObject) (g : Ground) → IsRoot root
    → CanPut (repo_of root) objects g → KeepsSound (objects_round (repo_of root) objects) g

-- The same where some of the objects stand, any one of those that have one place.
abbrev pub SomeAreIntact : Type 0
SomeAreIntact =
    (root : Names) (objects : List NewObject) (g x : Ground) → IsRoot root
    → CanPut (repo_of root) objects g → HasSome (repo_of root) objects g x → Sound g
    → (b : Ground) → IsIntact g b x

-- A tip that is set to a whole commit keeps a ground sound.
abbrev pub TipKeeps : Type 0
TipKeeps =
    (root : Names) (branch : Option (List ℕ)) (id : List ℕ) (g : Ground) → IsRoot root
    → CanSet (repo_of root) branch id g → KeepsSound (tip_round (repo_of root) branch id) g

-- A round of which no place is watched does, on any ground.
abbrev pub UnwatchedKeeps : Type 0
UnwatchedKeeps = (round : Round) (g : Ground) → IsUnwatched round → KeepsSound round g

-- A round of one file does where the ground is sound afterwards and has lost no object and no
-- content that matched its key.
abbrev pub OneFileKeeps : Type 0
OneFileKeeps =
    (p : Names) (bytes : List ℕ) (g : Ground) → (Sound g → Sound (insert g p bytes))
    → HoldsAll g (insert g p bytes) → HoldsContents g (insert g p bytes)
    → KeepsSound ((p, Some bytes) ∷ []) g

-- A round that begins and ends with the same at each watched place as one that keeps a ground sound
-- does so too.
abbrev pub SameKeeps : Type 0
SameKeeps =
    (one two : Round) (a b : Ground) → SameWatched b a
    → SameWatched (changed two b) (changed one a) → KeepsSound one a → KeepsSound two b

-- Rounds that each keep a ground sound do so in a row: each ground on their way is intact.
abbrev pub RoundsKeep : Type 0
RoundsKeep =
    (rounds : List Round) (g : Ground) → AllKeepSound rounds g → Sound g → (x : Ground)
    → IsAlong IsWatched Nothing g rounds x → IsIntactAlong g rounds x

-- Rounds in a row can be joined, unwatched ones always keep, and the last ground is sound and has
-- lost no object, and no content that matched its key.
pub record MoreRounds : Type 0 where
  pub joined : (one two : List Round) (g : Ground) → AllKeepSound one g
      → AllKeepSound two (finally one g) → AllKeepSound (one ++ two) g
  pub unwatched : (rounds : List Round) (g : Ground) → AreUnwatched rounds → AllKeepSound rounds g
  pub last : (rounds : List Round) (g : Ground) → AllKeepSound rounds g → Sound g
      → Sound (finally rounds g)
  pub held : (rounds : List Round) (g : Ground) → AllKeepSound rounds g → Sound g
      → HoldsAll g (finally rounds g)
  pub contents : (rounds : List Round) (g : Ground) → AllKeepSound rounds g → Sound g
      → HoldsContents g (finally rounds g)
