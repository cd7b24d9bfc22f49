use Rattle.std.proofs.Common.{◌≤◌, length, ◌∙◌, sym, arith}
use Rattle.index_file.proofs.Fronts.{extension_read, no_passed_name, no_room}
use Rattle.index_file.proofs.fields.after_extension.Goals as goal

pub returns-then-not-is_passed_name : goal.returns-then-not-is_passed_name
returns-then-not-is_passed_name c =
    let le : 4 ≤ length c.args.text.now = omega (arith, c.split_at.ensures.front_len, c.split_at.ensures.back_len) in
    no_passed_name c.args.text.now c.split_at.result.0.now c.split_at.result.1.now c.split_at.ensures.front c.split_at.ensures.back le (sym c.is_passed_name.ensures ∙ c.if-not-is_passed_name.true)

pub returns-then-behind-size : goal.returns-then-behind-size
returns-then-behind-size c =
    let le : 4 ≤ length c.args.text.now = omega (arith, c.split_at.ensures.front_len, c.split_at.ensures.back_len) in
    no_room c.args.text.now c.split_at.result.0.now c.split_at.result.1.now c.in-Some.behind.now c.in-Some.size c.split_at.ensures.front c.split_at.ensures.back le c.in-Some.ensures.0 c.in-Some.ensures.1 c.if-behind-size.true

pub returns : goal.returns
returns c =
    let le : 4 ≤ length c.args.text.now = omega (arith, c.split_at.ensures.front_len, c.split_at.ensures.back_len) in (
      c.split_at-2.result.0.now,
      extension_read c.args.text.now c.split_at.result.0.now c.split_at.result.1.now c.in-Some.behind.now c.split_at-2.result.0.now c.split_at-2.result.1.now c.in-Some.size c.split_at.ensures.front c.split_at.ensures.back le
          (sym c.is_passed_name.ensures ∙ c.if-not-is_passed_name.false) c.in-Some.ensures.0 c.in-Some.ensures.1 c.split_at-2.ensures.front c.split_at-2.ensures.back c.split_at-2.ensures.front_len,
    )
