use Rattle.std.proofs.Common.{◌≤◌, length, sym, ◌∙◌, arith}
use Rattle.std.proofs.lemmas.List.{drop_all, take_rest}
use Rattle.annex_keys.proofs.Names.{no_ext_of, one_ext_of, two_ext_of}
use Rattle.annex_keys.proofs.extensions.extension.Goals as goal

pub returns-in_default : goal.returns-in_default
returns-in_default c =
    take_rest c.args.name.now (length c.args.name.now)
    ∙ drop_all (length c.args.name.now) c.args.name.now (omega arith)
    ∙ sym (no_ext_of c.args.name.now c.in_default.ensures)

pub returns-in-None : goal.returns-in-None
returns-in-None c = take_rest c.args.name.now c.in-Some.last ∙ sym (one_ext_of c.args.name.now c.in-Some.last c.in-Some.ensures c.in-None.ensures)

pub returns-in-Some-last_group : goal.returns-in-Some-last_group
returns-in-Some-last_group c =
    take_rest c.args.name.now c.in-Some-last_group.before
    ∙ sym (two_ext_of c.args.name.now c.in-Some.last c.in-Some-last_group.before c.in-Some.ensures c.in-Some-last_group.ensures)
