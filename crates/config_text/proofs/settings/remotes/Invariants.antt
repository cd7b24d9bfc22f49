use Rattle.std.proofs.Common.{◌≡◌, Some, drop, map}
use Rattle.config_text.specs.Sections.{plain}
use Rattle.config_text.specs.Values.{joined}
use Rattle.config_text.specs.Settings.{remotes_of}
use Rattle.config_text.proofs.settings.remotes.Given as goal

-- the remotes so far and those of the rest make the whole
abbrev pub invariant-loop-section : goal.invariant-loop-section
invariant-loop-section l =
    joined (Some l.remotes.items) (remotes_of (map plain (drop l.section-index l.list))) ≡ remotes_of (map plain l.list)
