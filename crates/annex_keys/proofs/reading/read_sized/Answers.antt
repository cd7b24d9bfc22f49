use Rattle.std.proofs.lemmas.Result.{err_from_is_err_and}
use Rattle.annex_keys.proofs.Sizes.{size_stops}
use Rattle.annex_keys.proofs.Readings.{sized_behind}
use Rattle.annex_keys.proofs.reading.read_sized.Goals as goal

pub returns-in_err-digest : goal.returns-in_err-digest
returns-in_err-digest c =
    let p = err_from_is_err_and c.from_residual-in_err-digest.result c.from_residual-in_err-digest.ensures.1 in
    rw (p.1, p.2) (size_stops c.args.text.now c.in_ok-size.rest.now c.in_ok-size.size c.in_err-digest.field-0.0 c.in_ok-size.ensures c.in_err-digest.ensures)

pub returns : goal.returns
returns c = sized_behind c.args.text.now c.in_ok-size.rest.now c.in_ok-size.size c.in_ok-digest.digest c.in_ok-digest.ext.now c.in_ok-size.ensures c.in_ok-digest.ensures
