use Rattle.annex_keys.proofs.Readings.{rewritten}
use Rattle.annex_keys.proofs.laws.rewrite_key.Goals as goal

pub returns : goal.returns
returns c = rewritten c.args.text.now c.in_ok-key.key c.to_text.result c.in_ok-key.ensures c.to_text.ensures
