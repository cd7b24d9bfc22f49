use Rattle.std.proofs.Common.{◌≡◌, drop, map}
use Rattle.config_text.specs.Sections.{plain}
use Rattle.config_text.specs.Lookups.{otherwise, dataset_id_of}
use Rattle.config_text.proofs.datasets.dataset_id.Given as goal

-- what the rest gives, or else what was found, is what the whole gives
abbrev pub invariant-loop-section : goal.invariant-loop-section
invariant-loop-section l =
    otherwise (dataset_id_of (map plain (drop l.section-index l.list))) l.found ≡ dataset_id_of (map plain l.list)
