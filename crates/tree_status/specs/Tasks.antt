-- The tasks of a walk in one directory.
use Rattle.std.specs.Prelude.{◌≡◌, ◌⊎◌, ℕ, Bool, true, false, ◌&&◌, if◌then◌else◌, List, [], ◌∷◌}
use Rattle.std.specs.Prelude.{◌++◌, fold, Option, Some, None, bytes_eq}
use Rattle.std.specs.List.Sorted.{IsStrictlySortedBy}
use Rattle.std.specs.Ordering.{nat_cmp}
use Rattle.std.specs.Cmp.Lexicographic.{slice_cmp}
use Rattle.places.specs.All.{slash}
use Rattle.file_store.specs.All.{names_in}
use Rattle.file_store.specs.declared.kinds.Kind.{Kind}
use Rattle.file_store.specs.declared.kinds.Item.{Item}
use Rattle.file_store.specs.declared.kinds.Kind.TheVariants.{Absent, File, Dir, Other}
use Rattle.tree_status.specs.Working.{is_own, is_working}

-- Whether it is a directory.
abbrev pub is_dir : Kind → Bool
is_dir Absent = false
is_dir File = false
is_dir Dir = true
is_dir Other = false

-- The kind of the task with this key, once an item was planned: an item is a task under its name,
-- and what lies in a directory one under its name with a slash.
abbrev pub with_task : List ℕ → Option Kind → Item → Option Kind
with_task key before item =
    if is_own item.name then before
    else if is_dir item.kind && bytes_eq (item.name ++ slash ∷ []) key then Some Dir
    else if bytes_eq item.name key then Some item.kind
    else before

-- The kind of the first task with this key.
abbrev pub kind_for : List ℕ → List Item → Option Kind
kind_for key [] = None
kind_for key (task ∷ tasks) = if bytes_eq key task.name then Some task.kind else kind_for key tasks

-- These are the tasks of a directory with those items, in the order of their keys.
pub record ArePlanned (items tasks : List Item) : Type 0 where
  pub kinds : (key : List ℕ) → kind_for key tasks ≡ fold (with_task key) None items
  pub ascending : IsStrictlySortedBy (slice_cmp nat_cmp) (names_in tasks)

-- The key of a task: a working name, or one with a slash behind it.
pub record IsTask (key : List ℕ) : Type 0 where
  pub name : List ℕ
  pub works : is_working name ≡ true
  pub is : (key ≡ name) ⊎ (key ≡ name ++ slash ∷ [])
