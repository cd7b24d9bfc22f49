use Rattle.std.proofs.Common.{◌≡◌, ◌+◌, ◌≤◌, length, map}
use Rattle.config_text.specs.Sections.{plain}
use Rattle.config_text.specs.Reading.{read_on, contents, sections_of}
use Rattle.config_text.proofs.reading.read.Given as goal

-- the sections so far and the lines that are left make the whole
abbrev pub invariant-loop-rest : goal.invariant-loop-rest
invariant-loop-rest l = record {
  counted : l.count + length l.rest ≤ length l.bytes;
  whole : read_on l.count (map plain l.sections.items) (contents l.rest) ≡ sections_of l.bytes;
}

abbrev pub decreases-loop-rest : goal.decreases-loop-rest
decreases-loop-rest l = length l.rest
