-- A new commit on a dataset's head.
use Rattle.std.specs.Prelude.{◌≡◌, ◌⊎◌, ℕ, List, [], ◌∷◌, ◌++◌, map, Some, None}
use Rattle.places.specs.All.{Names, Ground}
use Rattle.file_store.specs.All.{finally}
use Rattle.git_objects.specs.All.{Fields, IsCommitText, oid}
use Rattle.git_objects.specs.declared.objects.ObjKind.TheVariants.{Blob as BlobKind}
use Rattle.git_objects.specs.declared.objects.ObjKind.TheVariants.{Commit as CommitKind}
use Rattle.repository.specs.All.{Head, head_of, IsHeld, repo_of}
use Rattle.object_store.specs.All.{place_in, with_objects, first_fault}
use Rattle.object_store.specs.declared.objects.NewObject.{NewObject}
use Rattle.snapshot.specs.All.{Dir, root_id, tree_objects, IsDir, AreHeld, IsBuilt}
use Rattle.snapshot.specs.declared.entries.Entry.{Entry}
use Rattle.snapshot.specs.declared.entries.Leaf.{Leaf}
use Rattle.snapshot.specs.declared.entries.Leaf.TheVariants.{Git, Link, Pin}
use Rattle.dataset.specs.Watched.{IsRoot}
use Rattle.dataset.specs.Whole.{Has, IsBlobAt, IsLeafHeld, EachLeaf, IsWhole, AreWhole}
use Rattle.dataset.specs.Sound.{IsDataset, Sound}
use Rattle.dataset.specs.Rounds.{AllKeepSound, AreFree, CanPut, save_rounds}

-- No two of the objects collide: those that have one place are one.
abbrev pub NoneCollide : Names → List NewObject → Type 0
NoneCollide repo objects =
    (o p : NewObject) → Has objects o → Has objects p → place_in repo o ≡ place_in repo p → o ≡ p

-- Objects of which none collide are held once they are put.
abbrev pub PutAreHeld : Type 0
PutAreHeld =
    (repo : Names) (objects : List NewObject) (g : Ground) → NoneCollide repo objects
    → (o : NewObject) → Has objects o
    → IsHeld (with_objects repo objects g) repo (oid o.kind o.body) o.kind o.body

-- What the store refuses isn't at the places of the objects.
abbrev pub NoFaultIsFree : Type 0
NoFaultIsFree =
    (repo : Names) (objects : List NewObject) (g : Ground) → first_fault repo objects g ≡ None
    → AreFree repo objects g

-- A new commit of a directory: it, its trees and its leaves are held, and its parents are whole.
pub record IsNewCommit (repo : Names) (dir : Dir) (fields : Fields) (body : List ℕ) (g : Ground)
    : Type 0 where
  pub text : IsCommitText body fields
  pub tree : fields.tree.0 ≡ root_id dir
  pub held : IsHeld g repo (oid CommitKind body) CommitKind body
  pub valid : IsDir dir
  pub trees : AreHeld repo g (tree_objects dir)
  pub leaves : EachLeaf (IsLeafHeld repo g) dir
  pub before : AreWhole repo fields.parents g

-- A new commit is whole.
abbrev pub NewCommitIsWhole : Type 0
NewCommitIsWhole =
    (repo : Names) (dir : Dir) (fields : Fields) (body : List ℕ) (g : Ground)
    → IsNewCommit repo dir fields body g → IsWhole repo (oid CommitKind body) g

-- A save on a head: objects that can be put, after which the new tip is whole.
pub record IsSave (root : Names) (head : Head) (objects : List NewObject) (id : List ℕ)
    (g : Ground) : Type 0 where
  pub outside : IsRoot root
  pub leads : head_of g (repo_of root) ≡ Some head
  pub put : CanPut (repo_of root) objects g
  pub whole : IsWhole (repo_of root) id (with_objects (repo_of root) objects g)

-- The rounds of a save keep a ground sound, and the head leads to the new commit at their end.
pub record IsSaved (root : Names) (head : Head) (objects : List NewObject) (id : List ℕ)
    (g : Ground) : Type 0 where
  pub keep : AllKeepSound (save_rounds (repo_of root) head.branch objects id) g
  pub leads : head_of (finally (save_rounds (repo_of root) head.branch objects id) g) (repo_of root)
      ≡ Some (record { branch = head.branch; id = id })

-- Each save does so.
abbrev pub SaveKeeps : Type 0
SaveKeeps =
    (root : Names) (head : Head) (objects : List NewObject) (id : List ℕ) (g : Ground)
    → IsSave root head objects id g → IsSaved root head objects id g

-- The objects of some blobs.
abbrev pub blob_objects : List (List ℕ) → List NewObject
blob_objects blobs = map (λ body. record { kind = BlobKind; body = body }) blobs

-- The object of a commit.
abbrev pub commit_object : List ℕ → NewObject
commit_object body = record { kind = CommitKind; body = body }

-- Blobs, trees and the commit.
abbrev pub saved_objects : List (List ℕ) → List NewObject → List ℕ → List NewObject
saved_objects blobs trees body = blob_objects blobs ++ trees ++ commit_object body ∷ []

-- A blob is held, or put.
abbrev pub IsBlobThere : Names → List ℕ → Ground → List (List ℕ) → Type 0
IsBlobThere repo id g blobs =
    IsBlobAt repo id g ⊎ ((body : List ℕ) × Has blobs body × (oid BlobKind body ≡ id))

-- The blob of a leaf is.
abbrev pub IsLeafThere : Names → Ground → List (List ℕ) → Leaf → Type 0
IsLeafThere repo g blobs (Git id exec) = IsBlobThere repo id.0 g blobs
IsLeafThere repo g blobs (Link id) = IsBlobThere repo id.0 g blobs
IsLeafThere repo g blobs (Pin id) = Unit {0}

-- The paths of a new commit on a dataset's head: their trees were built, the blobs that aren't held
-- are put too, and none of the objects collide.
pub record IsFlatSave (root : Names) (head : Head) (blobs : List (List ℕ)) (paths : List Entry)
    (trees : List NewObject) (fields : Fields) (body : List ℕ) (g : Ground) : Type 0 where
  pub dataset : IsDataset root g
  pub leads : head_of g (repo_of root) ≡ Some head
  pub built : IsBuilt paths fields.tree.0 trees
  pub leaves : (e : Entry) → Has paths e → IsLeafThere (repo_of root) g blobs e.leaf
  pub text : IsCommitText body fields
  pub parents : fields.parents ≡ record { 0 = head.id } ∷ []
  pub free : AreFree (repo_of root) (saved_objects blobs trees body) g
  pub own : NoneCollide (repo_of root) (saved_objects blobs trees body)

-- Its objects can be put, and its commit is whole then.
abbrev pub FlatSaveIsSave : Type 0
FlatSaveIsSave =
    (root : Names) (head : Head) (blobs : List (List ℕ)) (paths : List Entry)
    (trees : List NewObject) (fields : Fields) (body : List ℕ) (g : Ground) → Sound g
    → IsFlatSave root head blobs paths trees fields body g
    → IsSave root head (saved_objects blobs trees body) (oid CommitKind body) g
