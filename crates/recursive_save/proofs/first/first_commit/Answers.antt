use Rattle.recursive_save.proofs.FirstFacts.{config_is_entry, datalad_is_entry}
use Rattle.recursive_save.proofs.first.first_commit.Goals as goal

pub tree_of_one-requires : goal.tree_of_one-requires
tree_of_one-requires c = config_is_entry _ _

pub tree_of_one-requires-2 : goal.tree_of_one-requires-2
tree_of_one-requires-2 c = datalad_is_entry _ _
