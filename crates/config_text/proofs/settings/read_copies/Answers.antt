use Rattle.std.proofs.Common.{◌∙◌, ap, sym, Some, None}
use Rattle.std.proofs.lemmas.Bool.{cond-true, cond-false}
use Rattle.config_text.specs.Settings.{is_number, is_count}
use Rattle.config_text.proofs.Given.{copies_parsed, no_number}
use Rattle.config_text.proofs.settings.read_copies.Goals as goal

pub returns-then-not-is_number : goal.returns-then-not-is_number
returns-then-not-is_number c =
    sym (no_number c.args.text.now (ap is_number (sym c.as_bytes.ensures.value) ∙ sym c.is_number.ensures ∙ c.if-not-is_number.true))

pub returns-in_default : goal.returns-in_default
returns-in_default c =
    let number = ap is_number (sym c.as_bytes.ensures.value) ∙ sym c.is_number.ensures ∙ c.if-not-is_number.false in
    sym (rw c.in_default.is at (copies_parsed c.args.text.now c.parse.result number c.parse.ensures.value.0))

pub returns-then-not-is_count : goal.returns-then-not-is_count
returns-then-not-is_count c =
    let number = ap is_number (sym c.as_bytes.ensures.value) ∙ sym c.is_number.ensures ∙ c.if-not-is_number.false in
    sym ((rw c.in-Ok.is at (copies_parsed c.args.text.now c.parse.result number c.parse.ensures.value.0))
    ∙ cond-false (is_count c.in-Ok.copies) (Some c.in-Ok.copies) None (sym c.is_count.ensures ∙ c.if-not-is_count.true))

pub returns : goal.returns
returns c =
    let number = ap is_number (sym c.as_bytes.ensures.value) ∙ sym c.is_number.ensures ∙ c.if-not-is_number.false in
    sym ((rw c.in-Ok.is at (copies_parsed c.args.text.now c.parse.result number c.parse.ensures.value.0))
    ∙ cond-true (is_count c.in-Ok.copies) (Some c.in-Ok.copies) None (sym c.is_count.ensures ∙ c.if-not-is_count.false))
