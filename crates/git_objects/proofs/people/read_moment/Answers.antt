use Rattle.std.proofs.Common.{◌∙◌, sym, arith}
use Rattle.git_objects.proofs.Cutting.{filled}
use Rattle.git_objects.proofs.PersonTexts.{no_number, other_size}
use Rattle.git_objects.proofs.people.read_moment.Goals as goal

pub returns-in_err-secs : goal.returns-in_err-secs
returns-in_err-secs c =
    rw c.from_residual-in_err-secs.ensures (no_number c.args.text.now c.in_ok-digits.digits.now c.in_ok-digits.zone.now c.in_ok-digits.ensures c.in_err-secs.ensures)

pub returns-in_err-zone : goal.returns-in_err-zone
returns-in_err-zone c =
    rw c.from_residual-in_err-zone.ensures (other_size c.args.text.now c.in_ok-digits.digits.now c.in_ok-digits.zone.now c.in_ok-digits.ensures
    (λ e. omega (arith, c.in_err-zone.ensures.cases)))

pub returns-then-not-is_empty : goal.returns-then-not-is_empty
returns-then-not-is_empty c = other_size c.args.text.now c.in_ok-digits.digits.now c.in_ok-digits.zone.now c.in_ok-digits.ensures
    (λ e. omega (arith, c.in_ok-zone.ensures.cases.2, filled c.in_ok-zone.rest.now (sym c.is_empty.ensures ∙ c.if-not-is_empty.true)))
