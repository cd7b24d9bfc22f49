-- Commits of which all that they lead to is held.
use Rattle.std.specs.Prelude.{◌≡◌, ◌⊎◌, ℕ, List, [], ◌∷◌, Some}
use Rattle.places.specs.All.{Names, Ground}
use Rattle.git_objects.specs.All.{Fields}
use Rattle.git_objects.specs.declared.ids.Id.{Id}
use Rattle.git_objects.specs.declared.objects.ObjKind.TheVariants.{Blob as BlobKind}
use Rattle.repository.specs.All.{held_at}
use Rattle.object_store.specs.All.{IsCommitAt}
use Rattle.snapshot.specs.All.{Dir, Empty, Item, Sub, Stands}
use Rattle.snapshot.specs.declared.entries.Leaf.{Leaf}
use Rattle.snapshot.specs.declared.entries.Leaf.TheVariants.{Git, Link, Pin}

-- The list has this one.
abbrev pub Has : {A : Type 0} → List A → A → Type 0
Has [] e = ⊥
Has (x ∷ xs) e = (x ≡ e) ⊎ Has xs e

-- A blob is held under an id.
abbrev pub IsBlobAt : Names → List ℕ → Ground → Type 0
IsBlobAt repo id g =
    (body : List ℕ) × (held_at g repo id ≡ Some (record { kind = BlobKind; body = body }))

-- The blob of a leaf is held; a pin's commit is another dataset's.
abbrev pub IsLeafHeld : Names → Ground → Leaf → Type 0
IsLeafHeld repo g (Git id exec) = IsBlobAt repo id.0 g
IsLeafHeld repo g (Link id) = IsBlobAt repo id.0 g
IsLeafHeld repo g (Pin id) = Unit {0}

-- P holds of each leaf of a directory, at any depth.
abbrev pub EachLeaf : (Leaf → Type 0) → Dir → Type 0
EachLeaf P Empty = Unit {0}
EachLeaf P (Item name leaf more) = P leaf × EachLeaf P more
EachLeaf P (Sub name sub more) = EachLeaf P sub × EachLeaf P more

-- The tree with this id is held with all trees and blobs in it.
pub record IsFull (repo : Names) (id : List ℕ) (g : Ground) : Type 0 where
  pub dir : Dir
  pub stands : Stands repo id g dir
  pub leaves : EachLeaf (IsLeafHeld repo g) dir

-- A commit is held with its tree, and its parents are among these commits.
pub record IsCommitAmong (repo : Names) (g : Ground) (commits : List (List ℕ)) (id : List ℕ)
    : Type 0 where
  pub fields : Fields
  pub commit : IsCommitAt repo id g fields
  pub full : IsFull repo fields.tree.0 g
  pub among : (p : Id) → Has fields.parents p → Has commits p.0

-- A commit is whole where it is one of some commits that are held with their trees and have their
-- parents among them.
pub record IsWhole (repo : Names) (id : List ℕ) (g : Ground) : Type 0 where
  pub commits : List (List ℕ)
  pub has : Has commits id
  pub each : (c : List ℕ) → Has commits c → IsCommitAmong repo g commits c

-- Each of some commits is whole.
abbrev pub AreWhole : Names → List Id → Ground → Type 0
AreWhole repo ids g = (p : Id) → Has ids p → IsWhole repo p.0 g

-- A commit has an ancestor: itself, or one of a parent of it.
pub data HasAncestor (repo : Names) (g : Ground) : List ℕ → List ℕ → Type 0 where
  itself : {c : List ℕ} → HasAncestor repo g c c
  by_parent : {c d : List ℕ} (fields : Fields) (p : Id) → IsCommitAt repo c g fields
      → Has fields.parents p → HasAncestor repo g p.0 d → HasAncestor repo g c d

-- A commit that is held with its tree.
pub record IsComplete (repo : Names) (id : List ℕ) (g : Ground) : Type 0 where
  pub fields : Fields
  pub commit : IsCommitAt repo id g fields
  pub full : IsFull repo fields.tree.0 g

-- Each ancestor is held with its tree: another way to say that a commit is whole.
abbrev pub IsWholeByWalks : Names → List ℕ → Ground → Type 0
IsWholeByWalks repo c g = (d : List ℕ) → HasAncestor repo g c d → IsComplete repo d g
