use Rattle.std.proofs.lemmas.Bool.{false≢true}
use Rattle.location_log.proofs.Best.{none_present, present_says}
use Rattle.location_log.proofs.counting.present.Goals as goal

pub returns-in-Some : goal.returns-in-Some
returns-in-Some c = present_says c.args.lines.now c.args.uuid.now c.in-Some.line c.is_present.result c.in-Some.ensures (rw c.claim.ensures at c.is_present.ensures)

pub returns-in-None : goal.returns-in-None
returns-in-None c = (λ t. absurd (false≢true t), λ p. absurd (none_present c.args.lines.now c.args.uuid.now c.in-None.ensures p))
