use Rattle.std.proofs.lemmas.Result.{err_from_is_err_and}
use Rattle.acts.proofs.Removes.{remove_fails, remove_unsafe, remove_safe, remove_none}
use Rattle.acts.proofs.remove_file.Goals as goal

pub returns-in_err-remove : goal.returns-in_err-remove
returns-in_err-remove g c =
    let p = err_from_is_err_and c.from_residual.result c.from_residual.ensures.1 in
    rw (p.1, p.2) (remove_fails _ _ _ _ c.in_err-remove.field-0.0 c.in_err-remove.ensures.later c.in_err-remove.ensures.ends c.remove.ensures.steps)

pub returns-in_err-barrier : goal.returns-in_err-barrier
returns-in_err-barrier g c =
    let p = err_from_is_err_and c.from_residual-in_err-barrier.result c.from_residual-in_err-barrier.ensures.1 in
    let gone = rw c.if-branch.true at c.in_ok-remove.ensures.ends in
    rw (p.1, p.2) (remove_unsafe _ _ _ _ _ c.in_ok-remove.ensures.later gone c.remove.ensures.steps c.barrier.ensures.steps c.in_err-barrier.field-0.0 c.in_err-barrier.ensures.later c.in_err-barrier.ensures.ends)

pub returns-then-branch : goal.returns-then-branch
returns-then-branch g c =
    let gone = rw c.if-branch.true at c.in_ok-remove.ensures.ends in
    remove_safe _ _ _ _ _ c.in_ok-remove.ensures.later gone c.remove.ensures.steps c.barrier.ensures.steps c.in_ok-barrier.ensures.later c.in_ok-barrier.ensures.ends

pub returns : goal.returns
returns g c = remove_none _ _ _ _ c.in_ok-remove.ensures.later (rw c.if-branch.false at c.in_ok-remove.ensures.ends)
