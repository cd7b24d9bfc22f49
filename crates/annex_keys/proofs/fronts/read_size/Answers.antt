use Rattle.std.proofs.Common.{◌≡◌, ◌<◌, ◌^◌, sym, ◌∙◌, inl, inr, length, arith}
use Rattle.std.specs.Char.{is_ascii_digit}
use Rattle.annex_keys.specs.Steps.{StopsWith}
use Rattle.annex_keys.proofs.Sizes.{size_more, zero_stops, large_stops, no_digit_stops, no_bytes, no_digit_here, size_front}
use Rattle.annex_keys.proofs.fronts.read_size.Goals as goal
use Rattle.annex_keys.proofs.fronts.read_size.Goals.{then-loop-at-test+else-is_ascii_digit, else-loop-at-test, else-at-eq1-via-then-at-eq1+else-size-eq0, else-at-eq1-via-else-at-eq1}

pub returns-then-size-eq0 : goal.returns-then-size-eq0
returns-then-size-eq0 c =
    zero_stops c.args.text.now c.loop-at.at c.loop-at.size c.loop-at.invariant c.loop-at-test.true (sym c.is_ascii_digit.ensures.value ∙ c.if-is_ascii_digit.true)
    c.if-at-eq1.true c.if-size-eq0.true

pub returns-in_default : goal.returns-in_default
returns-in_default c =
    large_stops c.args.text.now c.loop-at.at c.loop-at.size c.loop-at.invariant c.loop-at-test.true (sym c.is_ascii_digit.ensures.value ∙ c.if-is_ascii_digit.true)
    c.in_default.ensures

pub loop-at-preserved : goal.loop-at-preserved
loop-at-preserved c =
    size_more c.args.text.now c.loop-at.at c.loop-at.size c.in-Some.more c.loop-at.invariant c.loop-at-test.true (sym c.is_ascii_digit.ensures.value ∙ c.if-is_ascii_digit.true)
    c.in-Some.ensures.0 c.in-Some.ensures.1
    (λ one none. elim c.else-at-eq1.branch [
      | else-at-eq1-via-then-at-eq1+else-size-eq0 w ↦ w.if-size-eq0.false none
      | else-at-eq1-via-else-at-eq1 w ↦ w.if-at-eq1.false one
    ])

pub returns-then-at-eq0 : goal.returns-then-at-eq0
returns-then-at-eq0 c = elim c.loop-at-test.branch [
  | then-loop-at-test+else-is_ascii_digit w ↦ no_digit_stops c.args.text.now (no_digit_here c.args.text.now c.loop-at.at c.if-at-eq0.true (sym w.is_ascii_digit.ensures.value ∙ w.if-is_ascii_digit.false))
  | else-loop-at-test w ↦ no_digit_stops c.args.text.now (no_bytes c.args.text.now c.loop-at.at c.if-at-eq0.true w.loop-at-test.false)
]

pub returns : goal.returns
returns c = elim c.loop-at-test.branch [
  | then-loop-at-test+else-is_ascii_digit w ↦ size_front c.args.text.now c.loop-at.at c.loop-at.size c.loop-at.invariant c.if-at-eq0.false (λ _. sym w.is_ascii_digit.ensures.value ∙ w.if-is_ascii_digit.false)
  | else-loop-at-test w ↦ size_front c.args.text.now c.loop-at.at c.loop-at.size c.loop-at.invariant c.if-at-eq0.false (λ lt. absurd (omega (arith, w.loop-at-test.false)))
]
