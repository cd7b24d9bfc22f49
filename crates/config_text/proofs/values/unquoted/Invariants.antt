use Rattle.std.proofs.Common.{◌≡◌, Some, drop}
use Rattle.config_text.specs.Values.{joined, spelled, outside}
use Rattle.config_text.proofs.values.unquoted.Given as goal

-- the value so far and what the rest spells make the whole
abbrev pub invariant-loop-byte : goal.invariant-loop-byte
invariant-loop-byte l =
    joined (Some l.value.items) (spelled l.place (drop l.byte-index l.text)) ≡ spelled outside l.text
