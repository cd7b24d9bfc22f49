use Rattle.std.proofs.Common.{◌∙◌, sym}
use Rattle.index_file.proofs.Fronts.{no_path_above, no_utf8_path}
use Rattle.index_file.proofs.paths.read_path.Goals as goal

pub returns-then-not-is_above : goal.returns-then-not-is_above
returns-then-not-is_above c =
    no_path_above c.args.last.now c.in_ok-path.path.now c.args.text.now c.in_ok-path.rest.now c.args.mark c.in_ok-path.ensures (sym c.is_above.ensures ∙ c.if-not-is_above.true)

pub returns-in_default : goal.returns-in_default
returns-in_default c =
    no_utf8_path c.args.last.now c.in_ok-path.path.now c.args.text.now c.in_ok-path.rest.now c.args.mark c.in_ok-path.ensures c.in_default.ensures.cases.0
