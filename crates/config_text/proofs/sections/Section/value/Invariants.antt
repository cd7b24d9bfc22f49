use Rattle.std.proofs.Common.{◌≡◌, drop}
use Rattle.std.specs.Prelude.{option_copied}
use Rattle.config_text.specs.Lookups.{otherwise, value_in}
use Rattle.config_text.proofs.sections.Section.value.Given as goal

-- what the rest gives, or else what was found, is what the whole gives
abbrev pub invariant-loop-entry : goal.invariant-loop-entry
invariant-loop-entry l =
    otherwise (value_in l.key (drop l.entry-index l.self.entries.items)) (option_copied l.found) ≡ value_in l.key l.self.entries.items
