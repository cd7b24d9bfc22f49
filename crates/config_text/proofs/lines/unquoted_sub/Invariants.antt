use Rattle.std.proofs.Common.{◌≡◌, Some, false, drop}
use Rattle.config_text.specs.Values.{joined}
use Rattle.config_text.specs.Lines.{sub_spelled}
use Rattle.config_text.proofs.lines.unquoted_sub.Given as goal

-- the name so far and what the rest spells make the whole
abbrev pub invariant-loop-byte : goal.invariant-loop-byte
invariant-loop-byte l =
    joined (Some l.sub.items) (sub_spelled l.escaped (drop l.byte-index l.text)) ≡ sub_spelled false l.text
