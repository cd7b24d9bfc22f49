use Rattle.annex_keys.proofs.Pointing.{no_front_no_pointer, no_key_here, points_to, points_to_none}
use Rattle.annex_keys.proofs.pointers.read_pointer.Goals as goal

pub returns-in_default : goal.returns-in_default
returns-in_default c = no_front_no_pointer c.args.bytes.now c.in_default.ensures

pub returns-in-Ok : goal.returns-in-Ok
returns-in-Ok c = points_to c.args.bytes.now c.in-Some.line.now c.without_newline.result.now c.in-Ok.key c.in-Some.ensures c.without_newline.ensures c.in-Ok.ensures

pub returns-in-Err-BadKey : goal.returns-in-Err-BadKey
returns-in-Err-BadKey c = points_to_none c.args.bytes.now c.in-Some.line.now c.without_newline.result.now c.in-Some.ensures c.without_newline.ensures (no_key_here c.without_newline.result.now c.in-Err-BadKey.field-0 _ c.in-Err-BadKey.field-0-is c.in-Err-BadKey.ensures)
