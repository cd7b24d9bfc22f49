use Rattle.std.proofs.Common.{◌∙◌}
use Rattle.tree_status.proofs.KeptBefore.{leaf_is}
use Rattle.tree_status.proofs.keeping.leaf_at.Goals as goal

pub returns : goal.returns
returns c = c.copied.ensures ∙ leaf_is c.args.old.now c.args.path.now c.find.result c.find.ensures.ordered c.find.ensures.leaf
