use Rattle.std.proofs.Common.{◌≡◌, take}
use Rattle.std.specs.List.{filter}
use Rattle.tree_status.specs.Changed.{shown}
use Rattle.tree_status.proofs.changes.lacking_files.Given as goal

abbrev pub invariant-loop-file : goal.invariant-loop-file
invariant-loop-file l = shown l.list.items ≡ filter (λ file. file.lacks) (take l.file-index l.files)
