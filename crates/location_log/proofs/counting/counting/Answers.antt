use Rattle.std.proofs.Common.{◌∙◌, sym, Some, ap}
use Rattle.location_log.proofs.Best.{found_all, found_other, found_own}
use Rattle.location_log.proofs.counting.counting.Goals as goal
use Rattle.location_log.proofs.counting.counting.Goals.{then-eq, else-eq}

pub loop-line-preserved : goal.loop-line-preserved
loop-line-preserved c = elim c.if-eq.branch [
  | then-eq w ↦
      found_own c.args.lines.now c.loop-line.line-index c.line-item.result c.args.uuid.now c.loop-line.found c.if-eq.found c.loop-line-test.true c.line-item.is
      (rw c.uuid.ensures at (sym c.eq.ensures ∙ w.if-eq.true)) (w.found-is ∙ ap Some w.better.ensures) c.loop-line.invariant
  | else-eq w ↦
      found_other c.args.lines.now c.loop-line.line-index c.line-item.result c.args.uuid.now c.loop-line.found c.if-eq.found c.loop-line-test.true c.line-item.is
      (rw c.uuid.ensures at (sym c.eq.ensures ∙ w.if-eq.false)) w.found-is c.loop-line.invariant
]

pub returns : goal.returns
returns c = found_all c.args.lines.now c.loop-line.line-index c.args.uuid.now c.loop-line.found c.loop-line-test.false c.loop-line.invariant
