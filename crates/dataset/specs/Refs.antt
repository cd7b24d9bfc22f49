-- HEAD and tips that are set, and saves, as acts.
use Rattle.std.specs.Prelude.{◌≡◌, ℕ, List, Some, None}
use Rattle.places.specs.All.{Names, Ground}
use Rattle.repository.specs.All.{Head as Led, head_of, repo_of}
use Rattle.acts.specs.All.{Step, Gives, bind, last_of}
use Rattle.object_store.specs.All.{puts_objects}
use Rattle.object_store.specs.declared.objects.NewObject.{NewObject}
use Rattle.ref_store.specs.All.{with_id, sets_head, sets_tip}
use Rattle.ref_store.specs.declared.heads.Head.{Head}
use Rattle.ref_store.specs.declared.heads.Head.TheVariants.{Branch, Detached}
use Rattle.dataset.specs.Watched.{IsRoot}
use Rattle.dataset.specs.Whole.{IsWhole}
use Rattle.dataset.specs.Leads.{CanLead}
use Rattle.dataset.specs.Moments.{ActKeeps}
use Rattle.dataset.specs.Saves.{IsSave}

-- A setting of the tip keeps a ground sound, and one that is done leads the head to the commit.
pub record IsTipSet (root : Names) (id : List ℕ) (g : Ground) : Type 0 where
  pub keeps : ActKeeps (sets_tip (repo_of root) id g) g
  pub leads : (head : Led) → head_of g (repo_of root) ≡ Some head
      → (sets_tip (repo_of root) id g).ending ≡ Gives tt
      → head_of (last_of (sets_tip (repo_of root) id g) g) (repo_of root) ≡ Some (with_id head id)

-- So does each setting of a tip to a whole commit, whatever HEAD and the branches are.
abbrev pub SetTipIsSound : Type 0
SetTipIsSound =
    (root : Names) (id : List ℕ) (g : Ground) → IsRoot root → IsWhole (repo_of root) id g
    → IsTipSet root id g

-- Where a HEAD leads that is to be set: a branch to the commit of its tip.
abbrev pub led_by : Head → List ℕ → Led
led_by (Branch name) tip = record { branch = Some name; id = tip }
led_by (Detached id) tip = record { branch = None; id = id.0 }

-- A setting of HEAD keeps a ground sound, and one that is done leads there.
pub record IsHeadSet (root : Names) (head : Head) (tip : List ℕ) (g : Ground) : Type 0 where
  pub keeps : ActKeeps (sets_head (repo_of root) head g) g
  pub leads : (sets_head (repo_of root) head g).ending ≡ Gives tt
      → head_of (last_of (sets_head (repo_of root) head g) g) (repo_of root)
      ≡ Some (led_by head tip)

-- So does each setting of a dataset's HEAD to a whole commit, or to a branch that is there at one.
abbrev pub SetHeadIsSound : Type 0
SetHeadIsSound =
    (root : Names) (head : Head) (tip : List ℕ) (g : Ground) → IsRoot root
    → CanLead root (led_by head tip) g → IsHeadSet root head tip g

-- A save: objects are put, and then the tip is set.
abbrev pub saves : Names → List NewObject → List ℕ → Step (Unit {0})
saves repo objects id = bind (puts_objects repo objects) (λ _. sets_tip repo id)

-- It keeps a ground sound, and one that is done leads the head to the commit.
pub record IsDone (root : Names) (head : Led) (objects : List NewObject) (id : List ℕ) (g : Ground)
    : Type 0 where
  pub keeps : ActKeeps (saves (repo_of root) objects id g) g
  pub leads : (saves (repo_of root) objects id g).ending ≡ Gives tt
      → head_of (last_of (saves (repo_of root) objects id g) g) (repo_of root)
      ≡ Some (with_id head id)

-- So does each save on a head.
abbrev pub SaveIsSound : Type 0
SaveIsSound =
    (root : Names) (head : Led) (objects : List NewObject) (id : List ℕ) (g : Ground)
    → IsSave root head objects id g → IsDone root head objects id g
