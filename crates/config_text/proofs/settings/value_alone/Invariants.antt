use Rattle.std.proofs.Common.{◌≡◌, drop, map}
use Rattle.std.specs.Prelude.{option_copied}
use Rattle.config_text.specs.Sections.{plain}
use Rattle.config_text.specs.Lookups.{otherwise, value_alone}
use Rattle.config_text.proofs.settings.value_alone.Given as goal

-- what the rest gives, or else what was found, is what the whole gives
abbrev pub invariant-loop-section : goal.invariant-loop-section
invariant-loop-section l =
    otherwise (value_alone l.name l.key (map plain (drop l.section-index l.list))) (option_copied l.found) ≡ value_alone l.name l.key (map plain l.list)
