use Rattle.std.proofs.Common.{◌≡◌, ◌∙◌}
use Rattle.std.proofs.lemmas.Result.{MatchResult-weaker}
use Rattle.location_log.specs.Printing.{log_text}
use Rattle.location_log.proofs.Printed.{reread_refuses, reread_same}
use Rattle.location_log.proofs.laws.reread.Goals as goal

pub returns : goal.returns
returns c =
    let is : c.as_slice.result.now ≡ log_text c.args.lines.now = c.as_slice.ensures.value ∙ c.in_ok-text.ensures.text in
    MatchResult-weaker c.read.result c.read.ensures
    (λ read r. reread_same c.args.lines.now read.items c.as_slice.result.now c.in_ok-text.ensures.stored is r)
    (λ e r. reread_refuses c.args.lines.now c.as_slice.result.now e c.in_ok-text.ensures.stored is r)
