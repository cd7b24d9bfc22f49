use Rattle.std.proofs.Common.{◌≡◌, true, ◌++◌, length}
use Rattle.std.specs.List.{All}
use Rattle.git_objects.specs.Decoding.{IsEntryStored}
use Rattle.git_objects.specs.Entries.{is_tree, tree_text}
use Rattle.git_objects.proofs.trees.Tree.decode.Given as goal

-- the entries so far make a tree, and their texts and the rest make the body
abbrev pub invariant-loop-rest : goal.invariant-loop-rest
invariant-loop-rest l = record {
  stored : All IsEntryStored l.entries.items;
  valid : is_tree l.entries.items ≡ true;
  text : l.body ≡ tree_text l.entries.items ++ l.rest;
}

abbrev pub decreases-loop-rest : goal.decreases-loop-rest
decreases-loop-rest l = length l.rest
