use Rattle.config_text.proofs.Cuts.{line_cut, line_last}
use Rattle.config_text.proofs.lines.first_line.Goals as goal

pub returns-in-Some-clause-lines : goal.returns-in-Some-clause-lines
returns-in-Some-clause-lines c =
    rw (c.split_at.ensures.front, c.split_at.ensures.back) (line_cut c.args.text.now c.in-Some.end c.in-Some.ensures c.requires)

pub returns-in-None-clause-lines : goal.returns-in-None-clause-lines
returns-in-None-clause-lines c =
    rw (c.split_at-in-None.ensures.front, c.split_at-in-None.ensures.back) (line_last c.args.text.now c.in-None.ensures c.requires)
