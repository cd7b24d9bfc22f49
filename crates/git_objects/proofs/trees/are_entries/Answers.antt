use Rattle.std.proofs.Common.{not, ap, ◌∙◌}
use Rattle.git_objects.proofs.Twins.{unnamed_is_none, unordered_is_none, tree_by_twins}
use Rattle.git_objects.proofs.trees.are_entries.Goals as goal

pub returns-then-not-are_named : goal.returns-then-not-are_named
returns-then-not-are_named c = unnamed_is_none c.args.entries.now (cc)

pub returns-then-not-are_ascending : goal.returns-then-not-are_ascending
returns-then-not-are_ascending c = unordered_is_none c.args.entries.now (λ up. cc (c.are_ascending.ensures.1 up))

pub returns : goal.returns
returns c = ap not c.has_twins.ensures ∙ tree_by_twins c.args.entries.now (cc) (c.are_ascending.ensures.0 (cc))
