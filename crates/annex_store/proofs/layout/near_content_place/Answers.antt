use Rattle.std.proofs.Common.{rules, ◌≡◌, ◌≤◌, ◌++◌, ◌∷◌, length, ap, arith, subst, ◌∙◌, length-append}
use Rattle.std.specs.Prelude.{IfOk}
use Rattle.places.specs.All.{Names, is_path, pieces, slashed, slash, joined, text_of}
use Rattle.places.proofs.Cuts.{below_text}
use Rattle.annex_store.specs.Layout.{log_place}
use Rattle.annex_store.specs.Places.{content_path, log_path}
use Rattle.annex_store.proofs.Fitting.{short_is}
use Rattle.annex_store.proofs.KeyPaths.{content_beside_log, content_is_path, content_pieces, log_pieces}
use Rattle.annex_store.proofs.layout.near_content_place.Goals as goal

pub below-requires-clause-path : goal.below-requires-clause-path
below-requires-clause-path c =
    let text : c.as_str.result.now ≡ content_path c.args.key.now = search rules in
    ap is_path text ∙ content_is_path c.args.key.now c.in_ok-path.ensures.stored

pub below-requires-clause-fits : goal.below-requires-clause-fits
below-requires-clause-fits c =
    let repo = c.args.repo.now in
    let key = c.args.key.now in
    let text : c.as_str.result.now ≡ content_path key = search rules in
    let whole : joined repo (log_path key) ≡ text_of (log_place repo key) = below_text repo (log_path key) ∙ ap (λ (n : Names). text_of (repo ++ n)) (log_pieces key c.in_ok-path.ensures.stored) in
    let fits : length (text_of (log_place repo key)) ≤ 4096 = short_is (log_place repo key) c.requires in
    omega (arith, fits, ap length whole, ap length text, content_beside_log key, length-append (slashed repo) (slash ∷ log_path key))

pub returns : goal.returns
returns c =
    let text : c.as_str.result.now ≡ content_path c.args.key.now = search rules in
    subst (λ (names : Names). IfOk c.below.result (λ place. place ≡ c.args.repo.now ++ names)) (ap pieces text ∙ content_pieces c.args.key.now c.in_ok-path.ensures.stored) c.below.ensures
