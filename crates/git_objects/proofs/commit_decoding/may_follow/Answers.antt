use Rattle.std.proofs.Common.{◌∙◌, sym}
use Rattle.git_objects.proofs.ExtraLines.{no_line, not_first, may_be_first}
use Rattle.git_objects.proofs.commit_decoding.may_follow.Goals as goal

pub returns-then-not-is_extra_line : goal.returns-then-not-is_extra_line
returns-then-not-is_extra_line c = no_line c.args.extra.now c.args.line.now c.requires.lines c.requires.one (sym c.is_extra_line.ensures ∙ c.if-not-is_extra_line.true)

pub returns-then-not-is_empty : goal.returns-then-not-is_empty
returns-then-not-is_empty c =
    not_first c.args.extra.now c.args.line.now c.requires.lines c.requires.one (sym c.is_extra_line.ensures ∙ c.if-not-is_extra_line.false) (sym c.is_empty.ensures ∙ c.if-not-is_empty.true)

pub returns : goal.returns
returns c =
    may_be_first c.args.extra.now c.args.line.now c.starts_with.result c.requires.lines c.requires.one (sym c.is_extra_line.ensures ∙ c.if-not-is_extra_line.false) (sym c.is_empty.ensures ∙ c.if-not-is_empty.false)
    c.starts_with.ensures.value
