use Rattle.std.proofs.Common.{◌≡◌, ◌++◌, drop}
use Rattle.std.specs.List.{flat_map}
use Rattle.config_text.specs.Values.{escaped_byte}
use Rattle.config_text.proofs.values.append_escaped.Given as goal

-- what is done and what is left make the whole
abbrev pub invariant-loop-byte : goal.invariant-loop-byte
invariant-loop-byte l =
    l.text.items ++ flat_map escaped_byte (drop l.byte-index l.value)
    ≡ l.initial.text.items ++ flat_map escaped_byte l.value
