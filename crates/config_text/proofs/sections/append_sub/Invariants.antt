use Rattle.std.proofs.Common.{◌≡◌, ◌++◌, drop}
use Rattle.std.specs.List.{flat_map}
use Rattle.config_text.specs.Sections.{sub_byte}
use Rattle.config_text.proofs.sections.append_sub.Given as goal

-- what is done and what is left make the whole
abbrev pub invariant-loop-byte : goal.invariant-loop-byte
invariant-loop-byte l =
    l.text.items ++ flat_map sub_byte (drop l.byte-index l.sub)
    ≡ l.initial.text.items ++ flat_map sub_byte l.sub
