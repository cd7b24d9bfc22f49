use Rattle.std.proofs.Common.{List, ap, map, arith}
use Rattle.config_text.specs.declared.sections.Section.{Section}
use Rattle.config_text.specs.Sections.{plain}
use Rattle.config_text.specs.Reading.{read_on, contents, sections_of}
use Rattle.config_text.proofs.reading.read.Goals as goal

pub loop-rest-init : goal.loop-rest-init
unfolding sections_of
loop-rest-init c = record {
  counted = omega arith;
  whole = ap (λ (z : List Section). read_on 0 (map plain z) (contents c.args.bytes.now)) c.new-sections.ensures.items;
}
