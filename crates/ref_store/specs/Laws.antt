-- What follows of the readings and settings of heads.
use Rattle.std.specs.Prelude.{◌≡◌, ◌≤◌, ◌⊎◌, ℕ, false, IsTrue, List, length, Some, None, option_map}
use Rattle.places.specs.All.{Names, text_of, has_name, Ground, file_at}
use Rattle.file_store.specs.All.{Disk, Drive, Since, IsImage, WasOpen, present}
use Rattle.git_objects.specs.All.{IsId}
use Rattle.repository.specs.All.{Head, is_branch, head_of, dlrepo, repo_of, repo_head, tip_place}
use Rattle.repository.specs.All.{repo_limit}
use Rattle.acts.specs.All.{Gives, last_of, Moments}
use Rattle.ref_store.specs.Reading.{head_at, tip_fault}
use Rattle.ref_store.specs.Forms.{branch_of}
use Rattle.ref_store.specs.Setting.{sets_tip, sets_head}
use Rattle.ref_store.specs.declared.heads.Head.{Head as Named}
use Rattle.ref_store.specs.declared.heads.Head.TheVariants.{Branch, Detached}

-- The tip is read exactly where HEAD leads to a commit, and then HEAD is read, and names the same
-- branch; a repository in which nothing can be written may have longer places.
pub record ReadsAgree : Type 0 where
  pub leads : (repo : Names) (g : Ground) → tip_fault repo g ≡ None → (head : Head)
      × (head_of g repo ≡ Some head)
  pub reads : (repo : Names) (g : Ground) (head : Head) → length (text_of repo) ≤ repo_limit
      → head_of g repo ≡ Some head → tip_fault repo g ≡ None
  pub branch : (repo : Names) (g : Ground) (head : Head) → head_of g repo ≡ Some head
      → option_map branch_of (head_at repo g) ≡ Some head.branch

-- The head on the same branch with another commit.
abbrev pub with_id : Head → List ℕ → Head
with_id head id = record { branch = head.branch; id = id }

-- A tip that was set: HEAD leads to the new commit, on the branch on which it was.
abbrev pub SetTipSets : Type 0
SetTipSets =
    (repo : Names) (id : List ℕ) (head : Head) (g : Ground) → IsId id
    → head_of g repo ≡ Some head → (sets_tip repo id g).ending ≡ Gives tt
    → head_of (last_of (sets_tip repo id g) g) repo ≡ Some (with_id head id)

-- A branch with a branch's name, or a commit with an id of 20 bytes.
abbrev pub IsHead : Named → Type 0
IsHead (Branch name) = IsTrue (is_branch name)
IsHead (Detached id) = IsId id.0

-- HEAD that was set names this.
abbrev pub SetHeadSets : Type 0
SetHeadSets =
    (repo : Names) (head : Named) (g : Ground) → IsHead head
    → (sets_head repo head g).ending ≡ Gives tt
    → head_at repo (last_of (sets_head repo head g) g) ≡ Some head

-- The old head or the new one.
abbrev pub IsOldOrNew : Names → Head → List ℕ → Ground → Type 0
IsOldOrNew repo head id x =
    (head_of x repo ≡ Some head) ⊎ (head_of x repo ≡ Some (with_id head id))

-- A crash before the call might have left this at HEAD's place or at the tip's.
abbrev pub WasOpenThere : Disk → Names → Head → Ground → Type 0
WasOpenThere start repo head x =
    WasOpen start (repo_head repo) (file_at x (repo_head repo))
    ⊎ WasOpen start (tip_place repo head.branch) (file_at x (tip_place repo head.branch))

-- The head of what stands, and of each ground that a crash may leave.
abbrev pub HeadRemains : Names → Head → List ℕ → Disk → Disk → Type 0
HeadRemains repo head id start d =
    IsOldOrNew repo head id d.now
    × ((x : Ground) → IsImage d x → IsOldOrNew repo head id x ⊎ WasOpenThere start repo head x)

-- At every moment of a setting of the tip, the head is the old one or the new one.
abbrev pub SetTipKeeps : Type 0
SetTipKeeps =
    (root : Names) (id : List ℕ) (head : Head) (old new : Drive) → has_name dlrepo root ≡ false
    → IsId id → head_of (present old) (repo_of root) ≡ Some head
    → Moments (sets_tip (repo_of root) id (present old)) old new
    → Since (λ d. HeadRemains (repo_of root) head id old.history.latest d) old.history new.history
