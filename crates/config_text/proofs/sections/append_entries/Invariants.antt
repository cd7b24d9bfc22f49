use Rattle.std.proofs.Common.{◌≡◌, ◌++◌, drop, map}
use Rattle.std.specs.List.{flat_map}
use Rattle.config_text.specs.Sections.{printed_entry, pair_of}
use Rattle.config_text.proofs.sections.append_entries.Given as goal

-- what is done and what is left make the whole
abbrev pub invariant-loop-entry : goal.invariant-loop-entry
invariant-loop-entry l =
    l.text.items ++ flat_map printed_entry (map pair_of (drop l.entry-index l.entries))
    ≡ l.initial.text.items ++ flat_map printed_entry (map pair_of l.entries)
