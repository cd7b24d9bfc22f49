use Rattle.std.proofs.Common.{◌≡◌, ℕ, List, fold, take, None}
use Rattle.std.specs.BTreeMap.{get_by_text}
use Rattle.tree_status.specs.Tasks.{with_task}
use Rattle.tree_status.proofs.planning.planned.Given as goal

abbrev pub invariant-loop-item : goal.invariant-loop-item
invariant-loop-item l = (key : List ℕ) → get_by_text l.tasks key ≡ fold (with_task key) None (take l.item-index l.items)
