use Rattle.std.proofs.Common.{Ok, Err}
use Rattle.acts.proofs.Laws.{exits}
use Rattle.acts.proofs.Replaces.{replaces}
use Rattle.acts.proofs.put_files.Goals as goal

pub replace_all-requires : goal.replace_all-requires
replace_all-requires g c = c.requires.apart

pub returns-in_err-replace_all : goal.returns-in_err-replace_all
returns-in_err-replace_all g c = exits c.from_residual.ensures.1 (replaces _ _ c.requires _ _ (Err c.in_err-replace_all.field-0.0) c.in_err-replace_all.ensures.later c.in_err-replace_all.ensures.ends c.replace_all.ensures.crash)

pub returns : goal.returns
returns g c = replaces _ _ c.requires _ _ (Ok tt) c.in_ok-replace_all.ensures.later c.in_ok-replace_all.ensures.ends c.replace_all.ensures.crash
