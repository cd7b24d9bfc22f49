-- The plan of a save, as the program has it.
use Rattle.std.specs.Prelude.{◌≡◌, ◌⊎◌, ◌<◌, ℕ, Bool, IsTrue, List, [], ◌∷◌, ◌++◌}
use Rattle.std.specs.Prelude.{Some, None, codes}
use Rattle.places.specs.All.{Names, Ground}
use Rattle.faults.specs.declared.faults.Fault.{Fault}
use Rattle.faults.specs.declared.faults.Trouble.{Trouble}
use Rattle.faults.specs.declared.faults.Fault.TheVariants.{BadLine, TooLarge, Dirty, PathClash}
use Rattle.faults.specs.declared.faults.Trouble.TheVariants.{Refused, NoMemory}
use Rattle.git_objects.specs.All.{oid, Fields, IsCommitText}
use Rattle.git_objects.specs.declared.objects.ObjKind.TheVariants.{Commit}
use Rattle.config_text.specs.All.{PlainConfig}
use Rattle.index_store.specs.All.{HasIndex}
use Rattle.repository.specs.All.{settings_place}
use Rattle.object_store.specs.declared.objects.NewObject.{NewObject}
use Rattle.snapshot.specs.All.{IsBuilt, IsLeastClash}
use Rattle.dataset.specs.All.{HasUuid}
use Rattle.tree_status.specs.All.{new_entries, IsView}
use Rattle.recursive_save.specs.Configured.{MayConfigure}
use Rattle.recursive_save.specs.Saving.{SavePlan, IsSavePlan, blobs_limit, plan_fault, save_commit}
use Rattle.recursive_save.specs.Saving.{save_lines}
use Rattle.recursive_save.specs.declared.planning.Planned.{Planned}
use Rattle.tree_status.specs.declared.viewing.View.{View}
use Rattle.recursive_save.specs.declared.wishes.SaveWish.{SaveWish}

-- A plan without where it lies in memory.
abbrev pub plan_of : Planned → SavePlan
plan_of planned = record {
  objects = planned.objects.items;
  commit = planned.commit.0;
  lines = planned.lines.items;
}

-- What comes with a plan of what was looked at: the new snapshot, whether the index is that of it,
-- and the repository's UUID.
pub record IsPlannedWith (root : Names) (view : View) (g : Ground) (planned : Planned) : Type 0
  where
    pub snapshot : planned.snapshot ≡ new_entries view.by.old view.files.items
    pub index : HasIndex root (new_entries view.by.old view.files.items) g planned.indexed
    pub uuid : HasUuid root planned.uuid g

-- Where this is what was looked at: nothing refuses the plan, it is the save's, and this comes with
-- it.
abbrev pub IsPlannedOf : Names → SaveWish → View → Ground → Planned → Type 0
IsPlannedOf root wish view g planned =
    IsView root wish.to_git g view
    → (plan_fault root g view.by.old view.files.items ≡ None)
    × IsSavePlan root wish g view.parent.0 view.by.old view.files.items (plan_of planned)
    × IsPlannedWith root view g planned

-- Where this is what was looked at: the refusal is the plan's.
abbrev pub IsPlanRefusal : Names → SaveWish → View → Ground → Fault → Type 0
IsPlanRefusal root wish view g fault =
    IsView root wish.to_git g view
    → plan_fault root g view.by.old view.files.items ≡ Some fault

-- What is past a limit where a save is planned: the text of the configuration, or the bytes of the
-- new blobs.
abbrev pub IsOverToPlan : Names → List ℕ → ℕ → Type 0
IsOverToPlan root path size =
    MayConfigure root (TooLarge path size) ⊎ (blobs_limit < size)

-- The faults of planning, whatever the files tell. Of files that tell, none is other than it was at
-- the first reading, and none lies above another.
abbrev pub MayPlan : Bool → Names → Fault → Type 0
MayPlan tells root (BadLine place line) = place ≡ settings_place root
MayPlan tells root (TooLarge path size) = IsOverToPlan root path size
MayPlan tells root (Dirty path) = IsTrue tells → ⊥
MayPlan tells root (PathClash path) = IsTrue tells → ⊥
MayPlan tells root fault = ⊥

-- The body of a commit: its tree is this one, and its one parent.
pub record IsCommitOn (body tree parent : List ℕ) : Type 0 where
  pub fields : Fields
  pub text : IsCommitText body fields
  pub tree_is : fields.tree.0 ≡ tree
  pub parent_is : fields.parents ≡ record { 0 = parent } ∷ []

-- A plan of blobs that were read: they, the trees of the new snapshot, and the commit.
pub record IsPlanWith (config : PlainConfig) (view : View) (wish : SaveWish)
    (blobs : List NewObject) (plan : SavePlan) : Type 0 where
  pub tree : List ℕ
  pub trees : List NewObject
  pub built : IsBuilt (new_entries view.by.old view.files.items) tree trees
  pub objects : plan.objects ≡ blobs ++ trees
      ++ record { kind = Commit; body = save_commit config wish tree view.parent.0 } ∷ []
  pub commit : plan.commit ≡ oid Commit (save_commit config wish tree view.parent.0)
  pub body : IsCommitOn (save_commit config wish tree view.parent.0) tree view.parent.0
  pub lines : plan.lines ≡ save_lines view.by.old view.files.items (codes "ok")

-- No plan is made of blobs that were read: for want of memory, or one of the files lies above
-- another.
abbrev pub PlanFails : View → Trouble → Type 0
PlanFails view NoMemory = Unit {0}
PlanFails view (Refused (PathClash path)) =
    IsLeastClash (new_entries view.by.old view.files.items) path
PlanFails view e = ⊥
