use Rattle.std.proofs.Common.{◌≡◌, subst, sym}
use Rattle.annex_keys.specs.Keys.{IsTextOf}
use Rattle.annex_keys.proofs.Readings.{reread}
use Rattle.annex_keys.proofs.laws.reread_key.Goals as goal

pub returns : goal.returns
returns c =
    let e : c.as_str.result.now ≡ c.in_ok-text.text = cc in
    reread c.as_str.result.now c.args.key.now c.from_text.result (subst (IsTextOf c.args.key.now) (sym e) c.in_ok-text.ensures) c.from_text.ensures
