use Rattle.std.proofs.Common.{lit<, sym}
use Rattle.config_text.proofs.Utf8.{utf8_cut}
use Rattle.config_text.proofs.lines.read_names.Goals as goal

pub read_sub-requires : goal.read_sub-requires
read_sub-requires c = (utf8_cut 32 c.args.text.now _ (lit< tt) c.requires (sym c.in-Some.ensures)).1
