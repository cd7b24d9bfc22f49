use Rattle.std.proofs.Common.{arith}
use Rattle.annex_keys.proofs.Readings.{on_ok_here}
use Rattle.annex_keys.proofs.printing.printed.Goals as goal

pub returns-clause-stored : goal.returns-clause-stored
returns-clause-stored c = on_ok_here c.format.result (record { size = omega arith; digest = c.digest.ensures.stored; ext = c.ext-ext.ensures.extended })
