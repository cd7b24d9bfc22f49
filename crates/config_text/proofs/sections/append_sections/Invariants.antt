use Rattle.std.proofs.Common.{◌≡◌, ◌++◌, drop}
use Rattle.std.specs.List.{flat_map}
use Rattle.config_text.specs.Sections.{printed_of}
use Rattle.config_text.proofs.sections.append_sections.Given as goal

-- what is done and what is left make the whole
abbrev pub invariant-loop-section : goal.invariant-loop-section
invariant-loop-section l =
    l.text.items ++ flat_map printed_of (drop l.section-index l.list)
    ≡ l.initial.text.items ++ flat_map printed_of l.list
