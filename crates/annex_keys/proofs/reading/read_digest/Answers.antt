use Rattle.std.proofs.Common.{◌≡◌, ◌<◌, ◌≤◌, length, sym, ◌∙◌, ap, arith}
use Rattle.std.specs.Prelude.{is_ok}
use Rattle.std.proofs.lemmas.Result.{err_from_is_err_and}
use Rattle.annex_keys.proofs.Digests.{digest_front, digest_read, digest_stops, digits_stop, front_fits}
use Rattle.annex_keys.proofs.reading.read_digest.Goals as goal

pub overflow_sub-result : goal.overflow_sub-result
overflow_sub-result c = omega (arith, front_fits c.args.text.now c.digits_at_front-digits.result c.digits_at_front-digits.ensures)

pub returns-then-digits-lt64 : goal.returns-then-digits-lt64
returns-then-digits-lt64 c = digits_stop c.args.text.now c.digits_at_front-digits.result c.digits_at_front-digits.ensures c.if-digits-lt64.true

pub split_at-requires : goal.split_at-requires
split_at-requires c = omega (arith, front_fits c.args.text.now c.digits_at_front-digits.result c.digits_at_front-digits.ensures)

pub returns-in_err-check_ext : goal.returns-in_err-check_ext
returns-in_err-check_ext c =
    let p = err_from_is_err_and c.from_residual.result c.from_residual.ensures.1 in
    rw (p.1, p.2) (digest_stops c.args.text.now c.split_at.result.0.now c.split_at.result.1.now c.in_err-check_ext.field-0.0
    (digest_front c.args.text.now c.split_at.result.0.now c.split_at.result.1.now c.digits_at_front-digits.result c.digits_at_front-digits.ensures (omega arith) c.split_at.ensures.front c.split_at.ensures.back)
    c.in_err-check_ext.ensures)

pub unwrap-digest-requires : goal.unwrap-digest-requires
unwrap-digest-requires c =
    let f = digest_front c.args.text.now c.split_at.result.0.now c.split_at.result.1.now c.digits_at_front-digits.result c.digits_at_front-digits.ensures (omega arith) c.split_at.ensures.front c.split_at.ensures.back in
    ap is_ok (c.from_hex.ensures ∙ f.read)

pub returns : goal.returns
returns c =
    let f = digest_front c.args.text.now c.split_at.result.0.now c.split_at.result.1.now c.digits_at_front-digits.result c.digits_at_front-digits.ensures (omega arith) c.split_at.ensures.front c.split_at.ensures.back in
    digest_read c.args.text.now c.split_at.result.0.now c.split_at.result.1.now f c.unwrap-digest.result c.in_ok-check_ext.ensures (sym c.from_hex.ensures ∙ c.unwrap-digest.ensures)
