use Rattle.std.proofs.Common.{◌∙◌, ap, subst, sym}
use Rattle.std.proofs.lemmas.Result.{IfOk-weaker}
use Rattle.location_log.specs.Newest.{AreNewest}
use Rattle.location_log.specs.Steps.{lasts}
use Rattle.location_log.proofs.Sorted.{newest_sorted}
use Rattle.location_log.proofs.newest.newest.Goals as goal

pub returns : goal.returns
returns c =
    IfOk-weaker c.lasts.result _ _
    (λ kept e. subst (AreNewest c.args.lines.items) (sym (e ∙ ap lasts c.as_slice.ensures.value)) (newest_sorted c.args.lines.items c.sort_lines.new.lines.items c.sort_lines.ensures.moved c.sort_lines.ensures.sorted))
    c.lasts.ensures
