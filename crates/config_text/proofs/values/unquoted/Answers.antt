use Rattle.std.proofs.Common.{◌∙◌, arith}
use Rattle.config_text.specs.Values.{added, after_byte, is_outside}
use Rattle.config_text.proofs.Spelling.{spelled_more}
use Rattle.config_text.proofs.values.unquoted.Goals as goal

pub loop-byte-preserved : goal.loop-byte-preserved
loop-byte-preserved c =
    rw c.after-place.ensures
    (spelled_more added after_byte is_outside c.loop-byte.place c.args.text.now c.loop-byte.byte-index c.loop-byte.value.items _ c.in_ok-add_byte.field-0
    (omega arith) c.in_ok-add_byte.ensures c.if-not-branch.false
    ∙ c.loop-byte.invariant)
