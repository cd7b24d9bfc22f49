use Rattle.std.proofs.Common.{length, inl, inr, sym, ap, ◌∙◌}
use Rattle.std.proofs.lemmas.Bool.{eqb-false}
use Rattle.location_log.proofs.reading.take_line.Goals as goal

pub returns-in_default : goal.returns-in_default
returns-in_default c = λ passed. elim passed [
  | inl e ↦ eqb-false (length c.args.text.now) 0 (sym c.is_empty.ensures ∙ c.if-is_empty.false) (ap length e)
  | inr l ↦ c.in_default.ensures l.0 l.1
]
