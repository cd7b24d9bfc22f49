use Rattle.ref_store.proofs.Leading.{agree}
use Rattle.ref_store.proofs.laws.reads_agree.Goals as goal

pub returns : goal.returns
returns c = agree
