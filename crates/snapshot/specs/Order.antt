-- Paths in byte order, and which lists of them have a directory.
use Rattle.std.specs.Prelude.{◌≡◌, ◌⊎◌, ℕ, Bool, true, ◌<◌, List, [], ◌∷◌, ◌++◌}
use Rattle.places.specs.All.{slash}
use Rattle.git_objects.specs.All.{is_entry}
use Rattle.snapshot.specs.Leaves.{dir_entry}
use Rattle.snapshot.specs.declared.entries.Leaf.{Leaf}
use Rattle.snapshot.specs.declared.entries.Entry.{Entry}

-- A text is below another one, byte by byte.
abbrev pub Below : List ℕ → List ℕ → Type 0
Below [] [] = ⊥
Below [] (b ∷ y) = Unit {0}
Below (a ∷ x) [] = ⊥
Below (a ∷ x) (b ∷ y) = (a < b) ⊎ ((a ≡ b) × Below x y)

-- P holds of each entry.
abbrev pub Each : (Entry → Type 0) → List Entry → Type 0
Each P [] = Unit {0}
Each P (e ∷ es) = P e × Each P es

-- Each path is below those after it.
abbrev pub IsSorted : List Entry → Type 0
IsSorted [] = Unit {0}
IsSorted (e ∷ es) = Each (λ f. Below e.path f.path) es × IsSorted es

-- Whether a tree's entry can have this name.
abbrev pub is_entry_name : List ℕ → Bool
is_entry_name name = is_entry (dir_entry name (record { 0 = [] }))

-- A name that a tree's entry can have.
abbrev pub IsEntryName : List ℕ → Type 0
IsEntryName name = is_entry_name name ≡ true

-- Names with slashes between them.
pub data IsValidPath : List ℕ → Type 0 where
  name : (n : List ℕ) → IsEntryName n → IsValidPath n
  down : (n p : List ℕ) → IsEntryName n → IsValidPath p → IsValidPath (n ++ slash ∷ p)

-- Paths ascend in byte order, and each is valid.
pub record IsOrdered (list : List Entry) : Type 0 where
  pub sorted : IsSorted list
  pub valid : Each (λ e. IsValidPath e.path) list

-- The list has this entry.
abbrev pub Has : List Entry → Entry → Type 0
Has [] e = ⊥
Has (x ∷ xs) e = (x ≡ e) ⊎ Has xs e

-- The list has a leaf at a path.
abbrev pub HasLeaf : List Entry → List ℕ → Leaf → Type 0
HasLeaf list path leaf = Has list (record { path = path; leaf = leaf })

-- The list has nothing at a path.
abbrev pub LacksPath : List Entry → List ℕ → Type 0
LacksPath list path = (leaf : Leaf) → HasLeaf list path leaf → ⊥

-- No path of the list is also above another one.
abbrev pub HasNoClash : List Entry → Type 0
HasNoClash list =
    (e f : Entry) (rest : List ℕ) → Has list e → Has list f → f.path ≡ e.path ++ slash ∷ rest → ⊥

-- What the paths of a tree are, and what a list must be for a directory to have these paths.
pub record IsPathList (list : List Entry) : Type 0 where
  pub sorted : IsSorted list
  pub valid : Each (λ e. IsValidPath e.path) list
  pub apart : HasNoClash list

-- A path of the list lies below this one.
abbrev pub HasBelow : List Entry → List ℕ → Type 0
HasBelow list path =
    (f : Entry) × Has list f × ((rest : List ℕ) × (f.path ≡ path ++ slash ∷ rest))

-- The least path of the list that is also above another one.
pub record IsLeastClash (list : List Entry) (path : List ℕ) : Type 0 where
  pub entry : Entry
  pub has : Has list entry
  pub same : entry.path ≡ path
  pub below : HasBelow list path
  pub least : (e : Entry) → Has list e → Below e.path path → HasBelow list e.path → ⊥
