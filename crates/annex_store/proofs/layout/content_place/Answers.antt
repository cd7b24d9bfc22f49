use Rattle.std.proofs.Common.{rules, ◌≡◌, ◌++◌, ap, subst, ◌∙◌}
use Rattle.places.specs.All.{Names, is_path, pieces}
use Rattle.annex_store.specs.Places.{IsPlaced, content_path}
use Rattle.annex_store.proofs.KeyPaths.{content_is_path, content_pieces}
use Rattle.annex_store.proofs.layout.content_place.Goals as goal

pub place_at-requires : goal.place_at-requires
place_at-requires c =
    let text : c.as_str.result.now ≡ content_path c.args.key.now = search rules in
    ap is_path text ∙ content_is_path c.args.key.now c.in_ok-path.ensures.stored

pub returns : goal.returns
returns c =
    let text : c.as_str.result.now ≡ content_path c.args.key.now = search rules in
    subst (λ (names : Names). IsPlaced (c.args.repo.now ++ names) c.place_at.result) (ap pieces text ∙ content_pieces c.args.key.now c.in_ok-path.ensures.stored) c.place_at.ensures
