-- Branches that are made, and all that stand.
use Rattle.std.specs.Prelude.{◌≡◌, ℕ, Bool, true, IsTrue, if◌then◌else◌, List, Option, Some, None}
use Rattle.std.specs.Prelude.{bytes_eq}
use Rattle.std.specs.List.{list_all, list_any}
use Rattle.std.specs.List.Sorted.{IsStrictlySortedBy}
use Rattle.std.specs.Ordering.{nat_cmp}
use Rattle.std.specs.Cmp.Lexicographic.{slice_cmp}
use Rattle.places.specs.All.{Names, Ground}
use Rattle.file_store.specs.All.{or_next}
use Rattle.faults.specs.declared.faults.Fault.{Fault}
use Rattle.faults.specs.declared.faults.Fault.TheVariants.{BadBranch, BranchThere, TooLarge}
use Rattle.faults.specs.declared.faults.Fault.TheVariants.{Blocked}
use Rattle.repository.specs.All.{branch_place, id_text, is_branch, repo_limit}
use Rattle.acts.specs.All.{Step, unless, bind}
use Rattle.ref_store.specs.Reading.{IsOver}
use Rattle.ref_store.specs.Revisions.{has_branch}
use Rattle.ref_store.specs.Setting.{long_repo, puts_one}

-- The refusal of a name that no branch may have.
abbrev pub name_fault : List ℕ → Option Fault
name_fault name = if is_branch name then None else Some (BadBranch name)

-- The refusal of a name that a branch has.
abbrev pub there_fault : Names → List ℕ → Ground → Option Fault
there_fault repo name g = if has_branch repo name g then Some (BranchThere name) else None

-- Why no branch is made: its name is none, a branch has it, or nothing may be written.
abbrev pub make_fault : Names → List ℕ → Ground → Option Fault
make_fault repo name g =
    or_next (name_fault name) (or_next (there_fault repo name g) (long_repo repo))

-- A made branch: nothing where it is refused, else its file names the id.
unfoldable pub makes_branch : Names → List ℕ → List ℕ → Step (Unit {0})
makes_branch repo name id =
    bind (unless (make_fault repo name)) (λ _. puts_one repo (branch_place repo name) (id_text id))

-- The faults that the making of a branch may hand on, whatever the files tell.
abbrev pub MayMakeBranch : Bool → Names → List ℕ → Fault → Type 0
MayMakeBranch tells repo name (BadBranch other) =
    (other ≡ name) × (name_fault name ≡ Some (BadBranch name))
MayMakeBranch tells repo name (BranchThere other) = (other ≡ name) × IsTrue (is_branch name)
MayMakeBranch tells repo name (TooLarge path size) = IsOver repo_limit repo path size
MayMakeBranch tells repo name (Blocked at) = IsTrue tells
MayMakeBranch tells repo name fault = ⊥

-- Names of branches, ascending in byte order.
pub record AreNames (names : List (List ℕ)) : Type 0 where
  pub ascending : IsStrictlySortedBy (slice_cmp nat_cmp) names
  pub named : list_all is_branch names ≡ true

-- These are the names of all branches that stand; files with other names are passed over.
pub record AreBranches (repo : Names) (g : Ground) (names : List (List ℕ)) : Type 0 where
  pub form : AreNames names
  pub among : (name : List ℕ) → list_any (bytes_eq name) names ≡ has_branch repo name g
