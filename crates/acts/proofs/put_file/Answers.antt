use Rattle.std.proofs.Common.{Ok, Err, refl}
use Rattle.acts.proofs.Laws.{exits}
use Rattle.acts.proofs.Replaces.{replaces}
use Rattle.acts.proofs.put_file.Goals as goal

pub replace-requires : goal.replace-requires
replace-requires g c = c.requires.apart.both 0 0 _ _ refl refl

pub returns-in_err-replace : goal.returns-in_err-replace
returns-in_err-replace g c = exits c.from_residual.ensures.1 (replaces _ _ c.requires _ _ (Err c.in_err-replace.field-0.0) c.in_err-replace.ensures.later c.in_err-replace.ensures.ends c.replace.ensures.crash)

pub returns : goal.returns
returns g c = replaces _ _ c.requires _ _ (Ok tt) c.in_ok-replace.ensures.later c.in_ok-replace.ensures.ends c.replace.ensures.crash
