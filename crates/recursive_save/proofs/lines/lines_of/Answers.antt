use Rattle.std.proofs.Common.{◌≡◌, List, map, take, ap, subst, sym, ◌∙◌, arith}
use Rattle.std.proofs.lemmas.Grind.{common_steps}
use Rattle.recursive_save.specs.Lines.{change_line, AreChangeLines}
use Rattle.tree_status.specs.declared.states.Change.{Change}
use Rattle.recursive_save.proofs.SaidLines.{all_said}
use Rattle.recursive_save.proofs.lines.lines_of.Goals as goal

pub returns-clause-lines : goal.returns-clause-lines
returns-clause-lines c =
    let all : take c.loop-change.change-index c.args.changes.now ≡ c.args.changes.now = grind (arith, common_steps) in
    c.loop-change.invariant ∙ ap (λ (l : List Change). map change_line l) all

pub returns-clause-said : goal.returns-clause-said
returns-clause-said c = subst AreChangeLines (sym c.loop-change.invariant) (all_said (take c.loop-change.change-index c.args.changes.now))
