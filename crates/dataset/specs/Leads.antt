-- HEAD and branches that are set.
use Rattle.std.specs.Prelude.{◌≡◌, ℕ, true, List, [], ◌∷◌, Option, None, Some}
use Rattle.places.specs.All.{Names, Ground, file_at}
use Rattle.file_store.specs.All.{Round, changed}
use Rattle.repository.specs.All.{Head, head_of, id_text, ref_text, is_branch, repo_of, head_place}
use Rattle.repository.specs.All.{branch_place}
use Rattle.dataset.specs.Watched.{IsRoot}
use Rattle.dataset.specs.Whole.{IsWhole}
use Rattle.dataset.specs.Sound.{IsDataset}
use Rattle.dataset.specs.Rounds.{KeepsSound}

-- HEAD's text for a branch, or for a commit where there is none.
abbrev pub lead_text : Option (List ℕ) → List ℕ → List ℕ
lead_text None id = id_text id
lead_text (Some name) id = ref_text name

-- HEAD is written anew.
abbrev pub lead_round : Names → Head → Round
lead_round root head = (head_place root, Some (lead_text head.branch head.id)) ∷ []

-- A branch that is to be HEAD's is at the commit.
abbrev pub IsAtCommit : Names → Option (List ℕ) → List ℕ → Ground → Type 0
IsAtCommit root None id g = Unit {0}
IsAtCommit root (Some name) id g =
    (is_branch name ≡ true) × (file_at g (branch_place (repo_of root) name) ≡ Some (id_text id))

-- HEAD of a dataset can be led to a whole commit: the branch that it is to name, if any, is there.
pub record CanLead (root : Names) (head : Head) (g : Ground) : Type 0 where
  pub dataset : IsDataset root g
  pub whole : IsWhole (repo_of root) head.id g
  pub there : IsAtCommit root head.branch head.id g

-- It keeps a ground sound, and the dataset has this head.
pub record IsLed (root : Names) (head : Head) (g : Ground) : Type 0 where
  pub keep : KeepsSound (lead_round root head) g
  pub leads : head_of (changed (lead_round root head) g) (repo_of root) ≡ Some head

-- Each HEAD that can be led there is.
abbrev pub LeadKeeps : Type 0
LeadKeeps =
    (root : Names) (head : Head) (g : Ground) → IsRoot root → CanLead root head g
    → IsLed root head g

-- The file of a branch gets a commit, be it a new branch.
abbrev pub branch_round : Names → List ℕ → List ℕ → Round
branch_round root name id = (branch_place (repo_of root) name, Some (id_text id)) ∷ []

-- Where the commit is whole this keeps a ground sound, whatever HEAD names.
abbrev pub BranchKeeps : Type 0
BranchKeeps =
    (root : Names) (name id : List ℕ) (g : Ground) → IsRoot root → is_branch name ≡ true
    → IsWhole (repo_of root) id g → KeepsSound (branch_round root name id) g
