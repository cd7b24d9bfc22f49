use Rattle.annex_keys.proofs.Prefixes.{group_front}
use Rattle.annex_keys.proofs.fronts.after_group.Goals as goal

pub returns : goal.returns
returns c = group_front c.args.text.now c.group_len-taken.result c.requires c.if-text-ne46.false c.group_len-taken.ensures c.if-taken-eq0.false
