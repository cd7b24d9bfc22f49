use Rattle.std.proofs.Common.{arith}
use Rattle.config_text.proofs.Utf8.{filled, utf8_inner}
use Rattle.config_text.proofs.lines.read_sub.Goals as goal

pub text_of-requires : goal.text_of-requires
text_of-requires c =
    utf8_inner c.args.text.now c.in-Some.inner.now c.in-Some-2.sub.items c.requires (filled _ _ c.is_empty.ensures c.if-is_empty.false) (omega arith) c.in-Some.ensures
    (rw c.in-Some-2.is at c.in_ok-sub.ensures)
