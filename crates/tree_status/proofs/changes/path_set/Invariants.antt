use Rattle.std.proofs.Common.{take}
use Rattle.tree_status.specs.Changed.{HasPaths}
use Rattle.tree_status.proofs.changes.path_set.Given as goal

abbrev pub invariant-loop-file : goal.invariant-loop-file
invariant-loop-file l = HasPaths (take l.file-index l.files) l.paths
