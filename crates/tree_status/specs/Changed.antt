-- Paths and states while they are gathered: as sets, and kept by their paths.
use Rattle.std.specs.Prelude.{◌≡◌, ℕ, if◌then◌else◌, List, map, Option, Some}
use Rattle.std.specs.Borrow.{Bor}
use Rattle.std.specs.BTreeMap.{BTreeMap, get_by}
use Rattle.std.specs.BTreeSet.{BTreeSet, contains_by}
use Rattle.std.specs.Ordering.{nat_cmp}
use Rattle.std.specs.Cmp.Lexicographic.{slice_cmp}
use Rattle.tree_status.specs.Changes.{change_at, is_among, paths_of}
use Rattle.tree_status.specs.declared.found.WorkingFile.{WorkingFile}
use Rattle.tree_status.specs.declared.states.Change.{Change}
use Rattle.tree_status.specs.declared.states.State.{State}

-- What references show.
abbrev pub shown : {A : Type 0} → List (Bor A) → List A
shown list = map (λ reference. reference.now) list

-- A set has the paths of the working files, and no others.
abbrev pub HasPaths : List WorkingFile → BTreeSet (Bor (List ℕ)) → Type 0
HasPaths files paths = (path : List ℕ)
    → contains_by (λ key. slice_cmp nat_cmp path key.now) paths ≡ is_among (paths_of files) path

-- The state at a path, among states that are kept by their paths.
abbrev pub state_at : BTreeMap (Bor (List ℕ)) State → List ℕ → Option State
state_at states path = get_by (λ key. slice_cmp nat_cmp path key.now) states

-- The state at a path once some paths have their states.
abbrev pub with_states : (List ℕ → State) → List (List ℕ) → List ℕ → Option State → Option State
with_states state_of paths path before =
    if is_among paths path then Some (state_of path) else before

-- The changes of states that are kept by their paths.
abbrev pub kept_changes : List (Bor (List ℕ) × State) → List Change
kept_changes states = map (λ kept. change_at kept.0.now kept.1) states
