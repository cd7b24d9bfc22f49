use Rattle.std.proofs.Common.{sym, ap}
use Rattle.acts.proofs.Laws.{by_name, done}
use Rattle.index_store.specs.Indexes.{keeps_index}
use Rattle.index_store.proofs.setting.keep_index.Goals as goal

pub returns-then-has : goal.returns-then-has
returns-then-has g c = by_name (ap (λ b. keeps_index b c.args.root.now c.args.snapshot.now) (sym c.if-has.true)) done
