use Rattle.std.proofs.Common.{◌+◌, ◌≤◌, ◌++◌, ◌∙◌, List, ℕ, length, ap, sym, arith}
use Rattle.std.specs.Prelude.{is_some}
use Rattle.git_objects.specs.Kinds.{text_of_object}
use Rattle.git_objects.proofs.ObjectTexts.{no_text, read_back}
use Rattle.git_objects.proofs.Readings.{without_nul, after_position, other_header, object_text}
use Rattle.git_objects.proofs.reading.read_object.Goals as goal

pub returns-in_err-start-clause-found : goal.returns-in_err-start-clause-found
returns-in_err-start-clause-found c = ap is_some c.from_residual.ensures ∙ sym (without_nul c.args.text.now (sym c.in_err-start.ensures))

pub returns-in_err-start-clause-each : goal.returns-in_err-start-clause-each
returns-in_err-start-clause-each c = λ kind body is. absurd (no_text c.args.text.now (without_nul c.args.text.now (sym c.in_err-start.ensures)) kind body is)

pub returns-in_err-kind-clause-found : goal.returns-in_err-kind-clause-found
returns-in_err-kind-clause-found c =
    let after = after_position c.args.text.now c.in_ok-start.field-0 (sym c.in_ok-start.ensures) ∙ sym c.split_at.ensures.back in
    ap is_some c.from_residual-in_err-kind.ensures
    ∙ sym (other_header c.args.text.now c.split_at.result.0.now c.split_at.result.1.now c.split_at.ensures.by_index.0 after c.in_err-kind.ensures)

pub returns-in_err-kind-clause-each : goal.returns-in_err-kind-clause-each
returns-in_err-kind-clause-each c = λ kind body is.
    let after = after_position c.args.text.now c.in_ok-start.field-0 (sym c.in_ok-start.ensures) ∙ sym c.split_at.ensures.back in
    absurd (no_text c.args.text.now (other_header c.args.text.now c.split_at.result.0.now c.split_at.result.1.now c.split_at.ensures.by_index.0 after c.in_err-kind.ensures) kind body is)

pub returns-clause-found : goal.returns-clause-found
returns-clause-found c =
    let after = after_position c.args.text.now c.in_ok-start.field-0 (sym c.in_ok-start.ensures) ∙ sym c.split_at.ensures.back in
    let whole = c.split_at.ensures.by_index.0 ∙ ap (λ (z : List ℕ). z ++ c.split_at.result.1.now) c.in_ok-kind.ensures in
    sym (object_text c.args.text.now c.split_at.result.1.now c.in_ok-kind.kind whole after)

pub returns-clause-each : goal.returns-clause-each
returns-clause-each c =
    let start = c.in_ok-start.field-0 + 1 in
    let whole = c.split_at.ensures.by_index.0 ∙ ap (λ (z : List ℕ). z ++ c.split_at.result.1.now) c.in_ok-kind.ensures in
    read_back c.args.text.now (c.in_ok-kind.kind, start) (let within : start ≤ length c.args.text.now = omega (arith, c.split_at.ensures.front_len) in within) (whole ∙ ap (text_of_object c.in_ok-kind.kind) c.split_at.ensures.back)
