use Rattle.std.proofs.Common.{ap, ◌∙◌}
use Rattle.acts.proofs.Reading.{read_exits}
use Rattle.tree_status.specs.All.{added, new_entries, shown}
use Rattle.recursive_save.proofs.PlanFacts.{config_fails, blobs_fail, plan_ends, snapshot_as}
use Rattle.recursive_save.proofs.Saves.{of_list}
use Rattle.recursive_save.proofs.planning.plan.Goals as goal

pub returns-in_err-config-clause-reads : goal.returns-in_err-config-clause-reads
returns-in_err-config-clause-reads g c =
    read_exits c.from_residual.ensures.1 (config_fails g.F.Files.tells c.args.root.now c.args.wish.now c.args.view.now c.in_err-config.ensures.reads)

pub returns-in_err-blobs-clause-reads : goal.returns-in_err-blobs-clause-reads
returns-in_err-blobs-clause-reads g c =
    let view = c.args.view.now in
    let files = shown c.as_slice-2.result.now in
    let picked = ap shown c.as_slice-2.ensures.value ∙ c.in_ok-added.ensures ∙ (λ i. added (c.old.ensures.value i) (c.as_slice.ensures.value i)) in
    read_exits c.from_residual-in_err-blobs.ensures.1
    (blobs_fail g.F.Files.tells c.args.root.now c.args.wish.now view files picked c.requires.looked c.in_ok-config.ensures.reads c.in_err-blobs.ensures)

pub returns-clause-reads : goal.returns-clause-reads
returns-clause-reads g c =
    let view = c.args.view.now in
    let files = shown c.as_slice-2.result.now in
    let picked = ap shown c.as_slice-2.ensures.value ∙ c.in_ok-added.ensures ∙ (λ i. added (c.old.ensures.value i) (c.as_slice.ensures.value i)) in
    let new_is = c.in_ok-new.ensures ∙ (λ i. new_entries (c.old-2.ensures.value i) (c.as_slice-3.ensures.value i)) in
    plan_ends g.F.Files.tells c.args.root.now c.args.wish.now view files picked c.requires.looked c.in_ok-config.ensures.reads c.in_ok-blobs.ensures
    (of_list new_is c.in_ok-indexed.ensures) (g.met.F.Files.grounded c.args.files.now) c.complete.result c.complete.ensures.plan c.complete.ensures.own
    (snapshot_as c.complete.result new_is c.complete.ensures.snapshot) c.complete.ensures.indexed c.complete.ensures.fails
