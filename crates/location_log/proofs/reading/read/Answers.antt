use Rattle.std.proofs.Common.{ℕ, ◌≤◌, List, length, Bool, Bor, Option, ap, ◌∙◌, subst, arith}
use Rattle.std.specs.Prelude.{option_map}
use Rattle.location_log.specs.Steps.{Takes, lines_left}
use Rattle.location_log.proofs.Logs.{SoFar, so_far_few, so_far_more}
use Rattle.location_log.proofs.reading.read.Goals as goal

pub overflow_add-count : goal.overflow_add-count
overflow_add-count c =
    let e = ap (λ (o : Option (Bor (List ℕ))). lines_left (option_map (λ rest. rest.now) o)) c.in-Some.is ∙ c.first_line.ensures in
    let few : c.loop-left.count ≤ length c.args.bytes.now =
    so_far_few c.args.bytes.now c.loop-left.count _ _ c.loop-left.lines.items (subst (λ (z : List (List ℕ)). SoFar c.args.bytes.now c.loop-left.count z c.loop-left.lines.items) e c.loop-left.invariant) in
    omega arith

pub loop-left-preserved : goal.loop-left-preserved
loop-left-preserved c =
    let e = ap (λ (o : Option (Bor (List ℕ))). lines_left (option_map (λ rest. rest.now) o)) c.in-Some.is ∙ c.first_line.ensures in
    so_far_more c.args.bytes.now c.loop-left.count c.first_line.result.0.now _ c.loop-left.lines.items c.take_line.new.lines.items
    (subst (λ (z : List (List ℕ)). SoFar c.args.bytes.now c.loop-left.count z c.loop-left.lines.items) e c.loop-left.invariant)
    (subst (λ (b : Bool). Takes c.first_line.result.0.now c.loop-left.lines.items c.take_line.new.lines.items b) c.if-not-branch.false c.in_ok-take_line.ensures)
