use Rattle.std.proofs.Common.{◌≡◌, ◌++◌, drop, map}
use Rattle.config_text.specs.Sections.{plain}
use Rattle.config_text.specs.Lookups.{submodules_of}
use Rattle.config_text.proofs.datasets.submodules_of.Given as goal

-- what is found and what is left make the whole
abbrev pub invariant-loop-section : goal.invariant-loop-section
invariant-loop-section l =
    l.found.items ++ submodules_of (map plain (drop l.section-index l.list)) ≡ submodules_of (map plain l.list)
