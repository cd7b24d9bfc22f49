use Rattle.git_objects.proofs.PersonTexts.{named_read, no_name, no_email, no_moment}
use Rattle.git_objects.proofs.people.read_names.Goals as goal

pub returns-in_err-name : goal.returns-in_err-name
returns-in_err-name c =
    rw c.from_residual-in_err-name.ensures (no_name c.args.text.now c.in_ok-front.front.now c.in_ok-front.rest.now c.in_ok-front.ensures c.in_err-name.ensures)

pub returns-in_err-email : goal.returns-in_err-email
returns-in_err-email c =
    rw c.from_residual-in_err-email.ensures (no_email c.args.text.now c.in_ok-front.front.now c.in_ok-front.rest.now c.in_ok-front.ensures c.in_err-email.ensures)

pub returns-in_err-moment : goal.returns-in_err-moment
returns-in_err-moment c =
    rw c.from_residual-in_err-moment.ensures
    (no_moment c.args.text.now c.in_ok-front.front.now c.in_ok-front.rest.now c.in_ok-email.email.now c.in_ok-email.rest.now c.in_ok-front.ensures c.in_ok-email.ensures c.in_err-moment.ensures)

pub returns : goal.returns
returns c =
    named_read c.args.text.now c.in_ok-front.front.now c.in_ok-name.name.now c.in_ok-front.rest.now c.in_ok-email.email.now c.in_ok-email.rest.now c.in_ok-moment.moment.now c.in_ok-front.ensures
    c.in_ok-name.ensures c.in_ok-email.ensures c.in_ok-moment.ensures
