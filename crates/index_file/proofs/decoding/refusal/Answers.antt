use Rattle.std.proofs.Common.{arith}
use Rattle.index_file.proofs.Places.{body_bounded}
use Rattle.index_file.proofs.decoding.refusal.Goals as goal

pub overflow_sub-result : goal.overflow_sub-result
overflow_sub-result c = body_bounded c.args.body.now c.in-Left.left (rw c.in-Left.is at c.requires)

pub returns-in-Left : goal.returns-in-Left
returns-in-Left c =
    let stops = rw c.in-Left.is at c.requires in
    let le = body_bounded c.args.body.now c.in-Left.left stops in
    (c.in-Left.left, stops, omega (arith, le))
