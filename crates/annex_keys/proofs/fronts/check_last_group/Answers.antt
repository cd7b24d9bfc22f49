use Rattle.std.proofs.Common.{◌≡◌, ◌<◌, length, sym, subst, ◌∙◌, inl, arith}
use Rattle.std.proofs.lemmas.Bool.Decides.{nat_tests}
use Rattle.std.proofs.lemmas.Result.{err_from_is_err_and}
use Rattle.annex_keys.specs.Steps.{StopsWith, IsExtUpTo, StopsGroup}
use Rattle.annex_keys.proofs.Groups.{no_group_stops, group_stops, end_stops, some_left}
use Rattle.annex_keys.proofs.fronts.check_last_group.Goals as goal

pub returns-in_err-rest : goal.returns-in_err-rest
returns-in_err-rest c =
    let p = err_from_is_err_and c.from_residual.result c.from_residual.ensures.1 in
    rw (p.1, p.2) (no_group_stops 0 c.args.text.now c.in_err-rest.field-0.0 c.in_err-rest.ensures)

pub returns-else-is_empty-2 : goal.returns-else-is_empty-2
returns-else-is_empty-2 c =
    group_stops 0 c.args.text.now c.in_ok-rest.rest.now (length c.in_ok-rest.rest.now) c.in_ok-rest.ensures
    (end_stops c.in_ok-rest.rest.now (some_left c.in_ok-rest.rest.now (sym c.is_empty-2.ensures ∙ c.if-is_empty-2.false)))
