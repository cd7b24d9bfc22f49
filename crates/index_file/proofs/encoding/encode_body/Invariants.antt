use Rattle.std.proofs.Common.{◌≡◌, ◌++◌, take}
use Rattle.std.specs.Prelude.{drop}
use Rattle.std.specs.List.{All, flat_map}
use Rattle.index_file.specs.Entries.{entry_text}
use Rattle.index_file.specs.Index.{body_text}
use Rattle.index_file.specs.Steps.{IsEntryStored}
use Rattle.index_file.proofs.encoding.encode_body.Given as goal

-- the text so far and the entries that are left make the whole text
abbrev pub invariant-loop-entry : goal.invariant-loop-entry
invariant-loop-entry l = record {
  text : l.text.items ++ flat_map entry_text (drop l.entry-index l.list) ≡ body_text l.list;
  stored : All IsEntryStored (take l.entry-index l.list);
}
