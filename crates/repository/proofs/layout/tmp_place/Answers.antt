use Rattle.std.proofs.Common.{◌≡◌, ◌∙◌, ap, length, arith, rules}
use Rattle.places.specs.All.{is_path, pieces}
use Rattle.places.proofs.Cuts.{base_le}
use Rattle.repository.proofs.Paths.{tmp_path, tmp_pieces, tmp_is_path, tmp_path_size}
use Rattle.repository.proofs.layout.tmp_place.Goals as goal

pub below-requires-clause-path : goal.below-requires-clause-path
below-requires-clause-path c =
    let text : c.as_str.result.now ≡ tmp_path c.args.number = search rules in
    ap is_path text ∙ tmp_is_path c.args.number (omega arith)

pub below-requires-clause-fits : goal.below-requires-clause-fits
below-requires-clause-fits c =
    let text : c.as_str.result.now ≡ tmp_path c.args.number = search rules in
    omega (arith, base_le c.args.repo.now, tmp_path_size c.args.number (omega arith), ap length text)

pub returns : goal.returns
returns c =
    let text : c.as_str.result.now ≡ tmp_path c.args.number = search rules in
    let names : pieces c.as_str.result.now ≡ _ = ap pieces text ∙ tmp_pieces c.args.number (omega arith) in
    search (rules, names)
