use Rattle.std.proofs.Common.{rules, ◌≡◌, ◌<◌, length, codes, ◌∙◌}
use Rattle.std.specs.Prelude.{string_bytes}
use Rattle.places.specs.All.{joined}
use Rattle.repository.specs.All.{settings_place}
use Rattle.ref_store.proofs.Fitting.{long_is}
use Rattle.recursive_save.proofs.Configured.{settings_text}
use Rattle.recursive_save.proofs.configuring.settings_place.Goals as goal

pub returns-then-len-gt-PLACE_LIMIT : goal.returns-then-len-gt-PLACE_LIMIT
returns-then-len-gt-PLACE_LIMIT c =
    let text : string_bytes c.in_ok-text.text ≡ joined c.args.root.now (codes ".dlrepo/config") = search rules in
    let long : 4096 < length (string_bytes c.in_ok-text.text) = search rules in
    long_is (settings_place c.args.root.now) (string_bytes c.in_ok-text.text) c.too_large.result (text ∙ settings_text c.args.root.now) long c.too_large.ensures
