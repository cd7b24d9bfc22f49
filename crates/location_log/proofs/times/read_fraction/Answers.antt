use Rattle.std.proofs.Common.{◌∙◌, sym, arith}
use Rattle.location_log.proofs.TimeTexts.{fraction_read, fraction_unread}
use Rattle.location_log.proofs.times.read_fraction.Goals as goal

pub returns-in_default : goal.returns-in_default
returns-in_default c = fraction_unread c.args.digits.now c.parse.result c.in_default.not-Ok (rw c.digits_text.ensures at c.parse.ensures.value.0)

pub overflow_mul-result : goal.overflow_mul-result
overflow_mul-result c =
    let read = fraction_read c.args.digits.now c.parse.result c.in-Ok.number c.pow.result c.in-Ok.is c.pow.ensures (sym c.are_digits.ensures ∙ c.if-not-are_digits.false) c.if-len-gt9.false
    (rw c.digits_text.ensures at c.parse.ensures.value.0) in
    let small = read.0 in
    omega arith

pub returns : goal.returns
returns c =
    fraction_read c.args.digits.now c.parse.result c.in-Ok.number c.pow.result c.in-Ok.is c.pow.ensures (sym c.are_digits.ensures ∙ c.if-not-are_digits.false) c.if-len-gt9.false
    (rw c.digits_text.ensures at c.parse.ensures.value.0)
