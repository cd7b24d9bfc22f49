use Rattle.std.proofs.Common.{sym, ◌∙◌}
use Rattle.git_objects.proofs.Digits.{digits_read, no_digits}
use Rattle.git_objects.proofs.ids.Id.from_hex.Goals as goal

pub returns-in-Ok : goal.returns-in-Ok
returns-in-Ok c = digits_read c.args.text.now c.in-Ok.bytes (sym c.from_hex.ensures ∙ c.in-Ok.is)

pub returns-in-Err : goal.returns-in-Err
returns-in-Err c = no_digits c.args.text.now c.in-Err.field-0 (sym c.from_hex.ensures ∙ c.in-Err.is)
