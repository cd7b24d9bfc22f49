use Rattle.std.proofs.Common.{◌+◌, ◌-◌, length, sym, ◌∙◌, arith}
use Rattle.dl_words.proofs.Numbers.{next_in, next_beyond}
use Rattle.dl_words.proofs.operands.may_be_next.Goals as goal

pub returns-then-count-forms : goal.returns-then-count-forms
returns-then-count-forms c =
    c.has_form.ensures ∙ sym (next_in c.args.row.now.operands.now c.args.row.now.more c.args.count c.args.word.now _ c.if-count-forms.true)

pub returns : goal.returns
returns c =
    c.is_within.ensures
    ∙ sym (next_beyond c.args.row.now.operands.now c.args.row.now.more c.args.count (c.args.count - length c.args.row.now.operands.now + 1) c.args.word.now (omega arith) c.if-count-forms.false)
