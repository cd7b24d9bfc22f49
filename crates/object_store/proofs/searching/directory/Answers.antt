use Rattle.std.proofs.Common.{◌≡◌, ◌++◌, ◌∙◌, ap, subst, length, arith, rules}
use Rattle.std.specs.Prelude.{IfOk}
use Rattle.places.specs.All.{Names, is_path, pieces}
use Rattle.places.proofs.Cuts.{base_le}
use Rattle.object_store.proofs.Prefixes.{directory_text, directory_pieces, directory_is_path, directory_size}
use Rattle.object_store.proofs.searching.directory.Goals as goal

pub below-requires-clause-path : goal.below-requires-clause-path
below-requires-clause-path c =
    let text : c.as_str.result.now ≡ directory_text c.args.first = search rules in
    ap is_path text ∙ directory_is_path c.args.first (search rules)

pub below-requires-clause-fits : goal.below-requires-clause-fits
below-requires-clause-fits c =
    let text : c.as_str.result.now ≡ directory_text c.args.first = search rules in
    let size : length c.as_str.result.now ≡ 10 = ap length text ∙ directory_size c.args.first in
    omega (arith, base_le c.args.repo.now)

pub returns : goal.returns
returns c =
    let text : c.as_str.result.now ≡ directory_text c.args.first = search rules in
    subst (λ (names : Names). IfOk c.below.result (λ place. place ≡ c.args.repo.now ++ names)) (ap pieces text ∙ directory_pieces c.args.first (search rules)) c.below.ensures
