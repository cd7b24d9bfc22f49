use Rattle.std.proofs.Common.{rules, ◌≡◌, ◌<◌, ◌++◌, length, ◌∙◌}
use Rattle.std.specs.Prelude.{string_bytes}
use Rattle.places.specs.All.{joined, pieces}
use Rattle.places.proofs.Cuts.{below_text}
use Rattle.annex_store.proofs.Fitting.{long_is}
use Rattle.annex_store.proofs.layout.place_at.Goals as goal

pub returns-then-len-gt-PLACE_LIMIT : goal.returns-then-len-gt-PLACE_LIMIT
returns-then-len-gt-PLACE_LIMIT c =
    let text : string_bytes c.in_ok-text.text ≡ joined c.args.repo.now c.args.path.now = search rules in
    let long : 4096 < length (string_bytes c.in_ok-text.text) = search rules in
    long_is (c.args.repo.now ++ pieces c.args.path.now) (string_bytes c.in_ok-text.text) c.too_large.result (text ∙ below_text c.args.repo.now c.args.path.now) long c.too_large.ensures
