use Rattle.std.proofs.Common.{lit<, sym}
use Rattle.config_text.proofs.Utf8.{utf8_cut}
use Rattle.config_text.proofs.lines.read_pair.Goals as goal

pub read_value-requires : goal.read_value-requires
read_value-requires c = (utf8_cut 61 c.args.text.now _ (lit< tt) c.requires (sym c.in-Some.ensures)).1
