use Rattle.std.proofs.lemmas.Result.{err_from_is_err_and}
use Rattle.annex_keys.proofs.Groups.{no_group_stops, ext_checked, ext_stops}
use Rattle.annex_keys.proofs.fronts.check_ext.Goals as goal

pub returns-in_err-rest : goal.returns-in_err-rest
returns-in_err-rest c =
    let p = err_from_is_err_and c.from_residual.result c.from_residual.ensures.1 in
    rw (p.1, p.2) (ext_stops c.args.text.now c.in_err-rest.field-0.0 (no_group_stops 1 c.args.text.now c.in_err-rest.field-0.0 c.in_err-rest.ensures))

pub returns : goal.returns
returns c = ext_checked c.args.text.now c.in_ok-rest.rest.now c.check_last_group.result c.in_ok-rest.ensures c.check_last_group.ensures
