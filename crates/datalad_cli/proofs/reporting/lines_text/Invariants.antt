use Rattle.std.proofs.Common.{◌≡◌, ◌++◌, drop}
use Rattle.std.specs.Prelude.{string_bytes}
use Rattle.datalad_cli.specs.Answer.{lines_text}
use Rattle.datalad_cli.proofs.reporting.lines_text.Given as goal

-- the text so far and the lines that are left make the whole text
abbrev pub invariant-loop-line : goal.invariant-loop-line
invariant-loop-line l = string_bytes l.text ++ lines_text (drop l.line-index l.lines) ≡ lines_text l.lines
