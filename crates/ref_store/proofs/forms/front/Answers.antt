use Rattle.std.proofs.Common.{sym, arith}
use Rattle.std.proofs.lemmas.List.{take_all}
use Rattle.ref_store.proofs.forms.front.Goals as goal

pub returns-then-text-lt40 : goal.returns-then-text-lt40
returns-then-text-lt40 c = sym (take_all 40 c.args.text.now (omega arith))
