use Rattle.std.proofs.Common.{◌≡◌, ◌≤◌, ◌-◌, [], length}
use Rattle.index_file.specs.Entries.{last_path}
use Rattle.index_file.specs.Index.{AreEntries}
use Rattle.index_file.specs.Things.{piled}
use Rattle.index_file.proofs.reading.read_entries.Given as goal

-- up to the rest the text has the entries so far
abbrev pub invariant-loop-last : goal.invariant-loop-last
invariant-loop-last l = record {
  entries : AreEntries l.list.items l.text l.rest;
  last : l.last ≡ last_path (piled [] l.list.items);
  few : length l.list.items ≤ l.count;
}

abbrev pub decreases-loop-last : goal.decreases-loop-last
decreases-loop-last l = l.count - length l.list.items
