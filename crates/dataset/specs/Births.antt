-- The rounds in which a dataset is made.
use Rattle.std.specs.Prelude.{◌≡◌, ℕ, true, List, [], ◌∷◌, ◌++◌, Some, None}
use Rattle.places.specs.All.{Names, Ground, file_at}
use Rattle.file_store.specs.All.{Round, finally}
use Rattle.git_objects.specs.All.{Fields, IsCommitText}
use Rattle.git_objects.specs.declared.objects.ObjKind.TheVariants.{Commit as CommitKind}
use Rattle.repository.specs.All.{head_of, id_text, ref_text, is_branch, repo_of, head_place}
use Rattle.repository.specs.All.{settings_place, branch_place}
use Rattle.object_store.specs.All.{objects_round, with_objects}
use Rattle.object_store.specs.declared.objects.NewObject.{NewObject}
use Rattle.dataset.specs.Watched.{IsRoot}
use Rattle.dataset.specs.Whole.{Has, IsWhole}
use Rattle.dataset.specs.Sound.{IsConfiguration}
use Rattle.dataset.specs.Rounds.{IsUnwatched, AllKeepSound}

-- What only HEAD makes a dataset of: some unwatched files, the configuration and the branch.
abbrev pub bare_round : Names → Round → List ℕ → List ℕ → List ℕ → Round
bare_round root work settings name id =
    work ++ (settings_place root, Some settings)
    ∷ (branch_place (repo_of root) name, Some (id_text id)) ∷ []

-- HEAD names the branch.
abbrev pub head_round : Names → List ℕ → Round
head_round root name = (head_place root, Some (ref_text name)) ∷ []

-- The objects, what only HEAD makes a dataset of, HEAD.
abbrev pub birth_rounds : Names → List NewObject → Round → List ℕ → List ℕ → List ℕ → List Round
birth_rounds root objects work settings name id =
    objects_round (repo_of root) objects ∷ bare_round root work settings name id
    ∷ head_round root name ∷ []

-- Nothing stands in the repository; no commit that is put there has a parent, that of the branch is
-- whole, and the configuration and the branch's name are in form.
pub record IsBirth (root : Names) (objects : List NewObject) (work : Round)
    (settings name id : List ℕ) (g : Ground) : Type 0 where
  pub outside : IsRoot root
  pub vacant : (names : Names) → file_at g (repo_of root ++ names) ≡ None
  pub first : (o : NewObject) → Has objects o → o.kind ≡ CommitKind → (fields : Fields)
      → IsCommitText o.body fields → fields.parents ≡ []
  pub unwatched : IsUnwatched work
  pub valid : IsConfiguration settings
  pub named : is_branch name ≡ true
  pub whole : IsWhole (repo_of root) id (with_objects (repo_of root) objects g)

-- The rounds of a birth keep a ground sound, and make a dataset whose branch is at the commit.
pub record IsBorn (root : Names) (objects : List NewObject) (work : Round)
    (settings name id : List ℕ) (g : Ground) : Type 0 where
  pub keep : AllKeepSound (birth_rounds root objects work settings name id) g
  pub head : head_of (finally (birth_rounds root objects work settings name id) g) (repo_of root)
      ≡ Some (record { branch = Some name; id = id })

-- Each birth does so.
abbrev pub BirthKeeps : Type 0
BirthKeeps =
    (root : Names) (objects : List NewObject) (work : Round) (settings name id : List ℕ)
    (g : Ground) → IsBirth root objects work settings name id g
    → IsBorn root objects work settings name id g
