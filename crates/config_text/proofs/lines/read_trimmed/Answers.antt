use Rattle.std.proofs.Common.{arith}
use Rattle.config_text.proofs.Utf8.{filled, utf8_tail}
use Rattle.config_text.proofs.lines.read_trimmed.Goals as goal

pub read_head-requires : goal.read_head-requires
read_head-requires c = utf8_tail c.args.text.now c.requires (filled _ _ c.is_empty.ensures c.if-is_empty.false) (omega arith)
