use Rattle.std.proofs.Common.{sym, ◌∙◌}
use Rattle.annex_keys.proofs.Names.{has_group, no_dot_no_group, other_no_group}
use Rattle.annex_keys.proofs.extensions.last_group.Goals as goal

pub returns-in_default : goal.returns-in_default
returns-in_default c = no_dot_no_group c.args.name.now c.in_default.ensures

pub returns-then-not-is_group : goal.returns-then-not-is_group
returns-then-not-is_group c = other_no_group c.args.name.now c.in-Some.dot c.in-Some.ensures (sym c.is_group.ensures ∙ c.if-not-is_group.true)

pub returns : goal.returns
returns c = has_group c.args.name.now c.in-Some.dot c.in-Some.ensures (sym c.is_group.ensures ∙ c.if-not-is_group.false)
