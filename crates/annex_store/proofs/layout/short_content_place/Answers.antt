use Rattle.std.proofs.Common.{rules, ◌≡◌, ◌++◌, length, ap, arith, subst, ◌∙◌}
use Rattle.std.specs.Prelude.{IfOk}
use Rattle.places.specs.All.{Names, is_path, pieces}
use Rattle.places.proofs.Cuts.{base_le}
use Rattle.annex_store.specs.Places.{content_path}
use Rattle.annex_store.proofs.KeyPaths.{content_is_path, content_path_size, content_pieces}
use Rattle.annex_store.proofs.layout.short_content_place.Goals as goal

pub below-requires-clause-path : goal.below-requires-clause-path
below-requires-clause-path c =
    let text : c.as_str.result.now ≡ content_path c.args.key.now = search rules in
    ap is_path text ∙ content_is_path c.args.key.now c.in_ok-path.ensures.stored

pub below-requires-clause-fits : goal.below-requires-clause-fits
below-requires-clause-fits c =
    let text : c.as_str.result.now ≡ content_path c.args.key.now = search rules in
    omega (arith, base_le c.args.repo.now, ap length text, content_path_size c.args.key.now c.in_ok-path.ensures.stored)

pub returns : goal.returns
returns c =
    let text : c.as_str.result.now ≡ content_path c.args.key.now = search rules in
    subst (λ (names : Names). IfOk c.below.result (λ place. place ≡ c.args.repo.now ++ names)) (ap pieces text ∙ content_pieces c.args.key.now c.in_ok-path.ensures.stored) c.below.ensures
