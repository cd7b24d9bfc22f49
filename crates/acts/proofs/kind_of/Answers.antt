use Rattle.acts.proofs.Laws.{asked, exits}
use Rattle.acts.proofs.Looks.{read_fails}
use Rattle.acts.proofs.kind_of.Goals as goal

pub returns-in_err-kind : goal.returns-in_err-kind
returns-in_err-kind g c = exits c.from_residual.ensures.1 (read_fails c.in_err-kind.field-0.0 c.in_err-kind.ensures.later c.in_err-kind.ensures.ends)

pub returns : goal.returns
returns g c = asked _ c.in_ok-kind.ensures.later c.in_ok-kind.ensures.ends
