use Rattle.std.proofs.Common.{◌≡◌, List, fold, None, take, ◌∙◌, ap, arith}
use Rattle.std.proofs.lemmas.Grind.{common_steps}
use Rattle.file_store.specs.declared.kinds.Item.{Item}
use Rattle.tree_status.specs.Tasks.{with_task}
use Rattle.tree_status.proofs.Tasks.{planned_made}
use Rattle.tree_status.proofs.planning.planned.Goals as goal

pub returns : goal.returns
returns c =
    let items = c.args.items.now in
    let all : take c.loop-item.item-index items ≡ items = grind (arith, common_steps) in
    planned_made c.as_list.result items c.loop-item.tasks (λ key. c.loop-item.invariant key ∙ ap (λ (l : List Item). fold (with_task key) None l) all) c.as_list.ensures.items c.as_list.ensures.ordered
