use Rattle.std.proofs.Common.{◌≡◌, ◌+◌, ◌-◌, ◌≤◌, length, drop}
use Rattle.std.specs.List.{prefix_len}
use Rattle.config_text.specs.Values.{is_blank}
use Rattle.config_text.proofs.values.without_front_blanks.Given as goal

-- what is skipped and what is still to be skipped make the blanks at the front
abbrev pub invariant-loop-start : goal.invariant-loop-start
invariant-loop-start l = record {
  within : l.start ≤ length l.text;
  skipped : l.start + prefix_len is_blank (drop l.start l.text) ≡ prefix_len is_blank l.text;
}

abbrev pub decreases-loop-start : goal.decreases-loop-start
decreases-loop-start l = length l.text - l.start
