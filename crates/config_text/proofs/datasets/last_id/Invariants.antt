use Rattle.std.proofs.Common.{◌≡◌, drop}
use Rattle.config_text.specs.Lookups.{otherwise, last_found, entry_id}
use Rattle.config_text.proofs.datasets.last_id.Given as goal

-- what the rest gives, or else what was found, is what the whole gives
abbrev pub invariant-loop-entry : goal.invariant-loop-entry
invariant-loop-entry l =
    otherwise (last_found entry_id (drop l.entry-index l.entries)) l.found ≡ last_found entry_id l.entries
