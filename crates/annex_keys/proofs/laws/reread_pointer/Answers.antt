use Rattle.std.proofs.Common.{◌≡◌, ◌∙◌}
use Rattle.annex_keys.proofs.Readings.{reread_pointed}
use Rattle.annex_keys.proofs.laws.reread_pointer.Goals as goal

pub returns : goal.returns
returns c =
    let e : c.as_bytes.result.now ≡ c.in_ok-text.text = cc in
    reread_pointed c.as_bytes.result.now c.args.key.now c.read_pointer.result c.in_ok-text.ensures.stored (e ∙ c.in_ok-text.ensures.text) c.read_pointer.ensures
