use Rattle.tree_status.proofs.Clean.{clean_unchanged}
use Rattle.tree_status.proofs.laws.clean_is_unchanged.Goals as goal

pub returns : goal.returns
returns c = clean_unchanged
