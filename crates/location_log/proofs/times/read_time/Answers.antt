use Rattle.location_log.proofs.TimeTexts.{cut_time}
use Rattle.location_log.proofs.times.read_time.Goals as goal

pub returns-in_err-read_number-in-Some : goal.returns-in_err-read_number-in-Some
returns-in_err-read_number-in-Some c =
    rw c.from_residual.ensures (λ secs nanos t.
    let read = cut_time secs nanos c.args.text.now c.in-Some.whole.now c.in-Some.digits.now c.in-Some.ensures t in
    c.in_err-read_number-in-Some.ensures secs read.0 read.1)

pub returns-in_err-read_fraction-in-Some : goal.returns-in_err-read_fraction-in-Some
returns-in_err-read_fraction-in-Some c =
    rw c.from_residual-in_err-read_fraction-in-Some.ensures (λ secs nanos t.
    let read = cut_time secs nanos c.args.text.now c.in-Some.whole.now c.in-Some.digits.now c.in-Some.ensures t in
    c.in_err-read_fraction-in-Some.ensures nanos read.2)
