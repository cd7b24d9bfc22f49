use Rattle.tree_status.proofs.FilesKept.{kept_files_are_one}
use Rattle.tree_status.proofs.laws.kept_files_are_one.Goals as goal

pub returns : goal.returns
returns c = kept_files_are_one
