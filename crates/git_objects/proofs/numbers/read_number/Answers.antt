use Rattle.std.proofs.Common.{◌≡◌, ◌∙◌, sym, subst}
use Rattle.std.specs.Str.Parse.{ParsesUnsigned}
use Rattle.git_objects.proofs.Decimals.{number_utf8, number_read, same_number, printed_back, number_size}
use Rattle.git_objects.proofs.numbers.read_number.Goals as goal

pub returns-in_default : goal.returns-in_default
returns-in_default c = λ n h. c.in_default.ensures.cases.0 (number_utf8 c.args.text.now n h)

pub returns-in_default-parse : goal.returns-in_default-parse
returns-in_default-parse c = λ n h.
    let read = number_read c.args.text.now n c.parse.result h (subst (λ z. ParsesUnsigned 64 10 z c.parse.result) c.in-Ok.ensures.cases.0 c.parse.ensures.value.0) in
    c.in_default-parse.not-Ok n read

pub returns-then-ne : goal.returns-then-ne
returns-then-ne c = λ n h.
    let read = number_read c.args.text.now n c.parse.result h (subst (λ z. ParsesUnsigned 64 10 z c.parse.result) c.in-Ok.ensures.cases.0 c.parse.ensures.value.0) in
    let same : c.in-Ok-parse.number ≡ n = cc (sym c.in-Ok-parse.is ∙ read) in
    same_number c.format.result.now c.in-Ok.digits.now c.args.text.now c.in-Ok-parse.number n c.format.ensures.text c.in-Ok.ensures.cases.0 same h (sym c.ne.ensures ∙ c.if-ne.true)

pub returns : goal.returns
returns c = record {
  printed = printed_back c.format.result.now c.in-Ok.digits.now c.args.text.now c.in-Ok-parse.number c.format.ensures.text c.in-Ok.ensures.cases.0 (sym c.ne.ensures ∙ c.if-ne.false);
  size = number_size c.in-Ok.digits.now c.in-Ok-parse.number c.parse.result c.parse.ensures.value.0 c.in-Ok-parse.is;
}
