use Rattle.std.proofs.Common.{◌∙◌}
use Rattle.std.specs.Prelude.{string_bytes}
use Rattle.faults.proofs.Facts.{pin_missing}
use Rattle.faults.proofs.texts.pin_missing.Goals as goal

pub returns : goal.returns
returns c =
    pin_missing string_bytes c.about_two.result c.args.path.now c.args.id.now c.as_str.result.now
    (c.as_str.ensures.value ∙ c.in_ok-id.ensures) c.about_two.ensures
