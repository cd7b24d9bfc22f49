use Rattle.std.proofs.Common.{◌∙◌, ◌++◌, List, ℕ, sym, subst}
use Rattle.git_objects.specs.Headers.{ended, IsExtra}
use Rattle.git_objects.proofs.ExtraLines.{taken, one_more, stops_open, stops_line}
use Rattle.git_objects.proofs.commit_decoding.read_extra.Goals as goal

pub returns : goal.returns
returns c = stops_open c.args.text.now c.loop-line.rest.now c.loop-line.invariant c.in_default.ensures

pub returns-then-not-may_follow : goal.returns-then-not-may_follow
returns-then-not-may_follow c =
    let front = taken c.args.text.now c.loop-line.rest.now c.split_at.result.0.now c.loop-line.invariant c.split_at.ensures.front in
    stops_line c.args.text.now c.loop-line.rest.now c.in-Some.line.now c.in-Some.after.now c.loop-line.invariant c.in-Some.ensures (sym c.is_empty.ensures ∙ c.if-is_empty.false)
    (λ valid. cc (sym c.if-not-may_follow.true ∙ c.may_follow.ensures.1 (subst (λ (z : List ℕ). IsExtra (z ++ ended c.in-Some.line.now)) (sym front) valid)))

pub loop-line-preserved : goal.loop-line-preserved
loop-line-preserved c =
    let front = taken c.args.text.now c.loop-line.rest.now c.split_at.result.0.now c.loop-line.invariant c.split_at.ensures.front in
    one_more c.args.text.now c.loop-line.rest.now c.in-Some.line.now c.in-Some.after.now c.loop-line.invariant c.in-Some.ensures
    (subst (λ (z : List ℕ). IsExtra (z ++ ended c.in-Some.line.now)) front (c.may_follow.ensures.0 c.if-not-may_follow.false))
