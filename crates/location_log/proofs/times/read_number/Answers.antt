use Rattle.std.proofs.Common.{◌∙◌, sym}
use Rattle.location_log.proofs.TimeTexts.{no_number, number_digits, number_read}
use Rattle.location_log.proofs.times.read_number.Goals as goal

pub returns-then-not-is_number : goal.returns-then-not-is_number
returns-then-not-is_number c = no_number c.args.bytes.now (sym c.is_number.ensures ∙ c.if-not-is_number.true)

pub digits_text-requires : goal.digits_text-requires
digits_text-requires c = number_digits c.args.bytes.now (sym c.is_number.ensures ∙ c.if-not-is_number.false)

pub returns : goal.returns
returns c =
    rw c.ok.ensures.value
    (number_read c.args.bytes.now c.parse.result (sym c.is_number.ensures ∙ c.if-not-is_number.false) (rw c.digits_text.ensures at c.parse.ensures.value.0))
