use Rattle.std.proofs.Common.{rules, ◌≡◌, ◌++◌, ap, subst, ◌∙◌}
use Rattle.places.specs.All.{Names, is_path, pieces}
use Rattle.annex_store.specs.Places.{IsPlaced, log_path}
use Rattle.annex_store.proofs.KeyPaths.{log_is_path, log_pieces}
use Rattle.annex_store.proofs.layout.log_place.Goals as goal

pub place_at-requires : goal.place_at-requires
place_at-requires c =
    let text : c.as_str.result.now ≡ log_path c.args.key.now = search rules in
    ap is_path text ∙ log_is_path c.args.key.now c.in_ok-path.ensures.stored

pub returns : goal.returns
returns c =
    let text : c.as_str.result.now ≡ log_path c.args.key.now = search rules in
    subst (λ (names : Names). IsPlaced (c.args.repo.now ++ names) c.place_at.result) (ap pieces text ∙ log_pieces c.args.key.now c.in_ok-path.ensures.stored) c.place_at.ensures
