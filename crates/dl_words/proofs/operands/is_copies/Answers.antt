use Rattle.std.proofs.Common.{◌∙◌, ap, sym}
use Rattle.dl_words.specs.Operands.{is_number}
use Rattle.dl_words.proofs.Numbers.{copies_parsed}
use Rattle.dl_words.proofs.operands.is_copies.Goals as goal

pub returns-in-Ok : goal.returns-in-Ok
returns-in-Ok c =
    let number = ap is_number (sym c.as_bytes.ensures.value) ∙ sym c.is_number.ensures ∙ c.if-not-is_number.false in
    sym (rw c.in-Ok.is at (copies_parsed c.args.text.now c.parse.result number c.parse.ensures.value.0))

pub returns-in-Err : goal.returns-in-Err
returns-in-Err c =
    let number = ap is_number (sym c.as_bytes.ensures.value) ∙ sym c.is_number.ensures ∙ c.if-not-is_number.false in
    sym (rw c.in-Err.is at (copies_parsed c.args.text.now c.parse.result number c.parse.ensures.value.0))
