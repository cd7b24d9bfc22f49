use native.Mathlib.Numerals.{unary_clauses}
use Rattle.places.proofs.Slashes.{none_found, last_found}
use Rattle.tree_status.proofs.Paths.{directory_none, directory_cut}
use Rattle.tree_status.proofs.visiting.directory_of.Goals as goal

pub returns-in-None : goal.returns-in-None
returns-in-None c = directory_none c.args.path.now (none_found c.args.path.now c.rfind.result c.rfind.ensures.cases c.in-None.is)

pub returns-in-Some : goal.returns-in-Some
returns-in-Some c =
    let cut = last_found c.args.path.now c.rfind.result c.rfind.ensures.cases c.in-Some.at c.in-Some.is c.range.result.now (simp unary_clauses at c.range.ensures.value) in
    directory_cut c.args.path.now c.range.result.now cut.0 cut.1 cut.2
