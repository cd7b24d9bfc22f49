use Rattle.std.proofs.Common.{w32, ap, ◌∙◌}
use Rattle.std.specs.Fmt.{signed_decimal}
use Rattle.std.specs.Prelude.{string_bytes}
use Rattle.std.proofs.lemmas.Int.{to_z-of_z}
use Rattle.faults.proofs.Facts.{exit_differs}
use Rattle.faults.proofs.texts.exit_differs.Goals as goal

pub returns : goal.returns
returns c =
    let got = c.as_str-got.ensures.value ∙ c.in_ok-got.ensures ∙ ap signed_decimal (to_z-of_z w32 c.args.got c.ranges.got) in
    let recorded = c.as_str-recorded.ensures.value ∙ c.in_ok-recorded.ensures ∙ ap signed_decimal (to_z-of_z w32 c.args.recorded c.ranges.recorded) in
    exit_differs string_bytes c.about_three.result c.args.commit.now c.args.recorded c.args.got
    c.as_str-commit.result.now c.as_str-got.result.now c.as_str-recorded.result.now
    (c.as_str-commit.ensures.value ∙ c.in_ok-commit.ensures) got recorded c.about_three.ensures
