use Rattle.std.proofs.Common.{◌≡◌, take, string_bytes}
use Rattle.std.specs.List.{AllByRecursion}
use Rattle.location_log.specs.Plain.{IsLogLine}
use Rattle.location_log.specs.Printing.{log_text}
use Rattle.location_log.proofs.printing.print.Given as goal

-- the text of the lines so far
abbrev pub invariant-loop-line : goal.invariant-loop-line
invariant-loop-line l = record {
  printed : string_bytes l.text ≡ log_text (take l.line-index l.lines);
  stored : AllByRecursion IsLogLine (take l.line-index l.lines);
}
