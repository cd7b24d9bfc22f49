use Rattle.std.proofs.Common.{◌≡◌, take}
use Rattle.recursive_save.specs.Contents.{contents}
use Rattle.recursive_save.proofs.contents.contents.Given as goal

-- the contents of the files so far
abbrev pub invariant-loop-file : goal.invariant-loop-file
invariant-loop-file l = l.list.items ≡ contents l.root l.by (take l.file-index l.files)
