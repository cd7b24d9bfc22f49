use Rattle.dataset.proofs.Leading.{is_led}
use Rattle.dataset.proofs.laws.lead_keeps.Goals as goal

pub returns : goal.returns
returns c = is_led
