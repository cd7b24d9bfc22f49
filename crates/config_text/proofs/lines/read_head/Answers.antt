use Rattle.std.proofs.Common.{lit<, sym}
use Rattle.config_text.proofs.Utf8.{utf8_without_end}
use Rattle.config_text.proofs.lines.read_head.Goals as goal

pub read_names-requires : goal.read_names-requires
read_names-requires c = utf8_without_end 93 c.args.text.now c.in-Some.names.now (lit< tt) c.requires (sym c.in-Some.ensures)
