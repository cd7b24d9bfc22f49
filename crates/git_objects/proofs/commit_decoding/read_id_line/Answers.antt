use Rattle.std.proofs.Common.{◌≡◌, ◌∙◌, List, ℕ, sym, subst}
use Rattle.git_objects.specs.CommitLines.{line_text}
use Rattle.git_objects.proofs.HeadLines.{unended_id, odd_digits, other_digits, same_digits, read_line, read_id}
use Rattle.git_objects.proofs.commit_decoding.read_id_line.Goals as goal

pub returns-in_err-digits : goal.returns-in_err-digits
returns-in_err-digits c =
    rw c.from_residual-in_err-digits.ensures (unended_id c.args.text.now c.args.word.now c.in_ok-value.value.now c.in_ok-value.ensures c.in_err-digits.ensures)

pub returns-in_err-id : goal.returns-in_err-id
returns-in_err-id c =
    rw c.from_residual-in_err-id.ensures
    (odd_digits c.args.text.now c.args.word.now c.in_ok-value.value.now c.in_ok-digits.digits.now c.in_ok-digits.rest.now c.in_ok-value.ensures c.in_ok-digits.ensures c.in_err-id.ensures)

pub returns-then-ne : goal.returns-then-ne
returns-then-ne c =
    other_digits c.args.text.now c.args.word.now c.in_ok-value.value.now c.in_ok-digits.digits.now c.in_ok-digits.rest.now c.as_slice.result.now c.in_ok-value.ensures c.in_ok-digits.ensures
    (c.as_slice.ensures ∙ c.to_hex.ensures ∙ c.in_ok-id.ensures.1) (sym c.ne.ensures ∙ c.if-ne.true)

pub returns : goal.returns
returns c =
    let digits = same_digits c.as_slice.result.now c.in_ok-digits.digits.now (sym c.ne.ensures ∙ c.if-ne.false) ∙ c.as_slice.ensures ∙ c.to_hex.ensures in
    record {
      valid = read_id c.in_ok-id.id.0 c.in_ok-digits.digits.now c.in_ok-id.ensures.0 digits;
      printed = subst (λ (z : List ℕ). c.args.text.now ≡ line_text c.args.word.now z c.in_ok-digits.rest.now) digits
          (read_line c.args.text.now c.args.word.now c.in_ok-value.value.now c.in_ok-digits.digits.now c.in_ok-digits.rest.now c.in_ok-value.ensures c.in_ok-digits.ensures);
    }
