use Rattle.std.proofs.Common.{◌≡◌, ◌++◌, take}
use Rattle.std.specs.Prelude.{drop}
use Rattle.std.specs.List.{All}
use Rattle.git_objects.specs.Decoding.{IsEntryStored}
use Rattle.git_objects.specs.Entries.{tree_text}
use Rattle.git_objects.proofs.trees.Tree.encode.Given as goal

-- the body so far and the entries that are left make the whole body
abbrev pub invariant-loop-entry : goal.invariant-loop-entry
invariant-loop-entry l = record {
  text : l.body.items ++ tree_text (drop l.entry-index l.entry-items) ≡ tree_text l.self.entries.items;
  stored : All IsEntryStored (take l.entry-index l.entry-items);
}
