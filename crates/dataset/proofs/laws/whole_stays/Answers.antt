use Rattle.dataset.proofs.Wholes.{whole_stays}
use Rattle.dataset.proofs.laws.whole_stays.Goals as goal

pub returns : goal.returns
returns c = λ repo id a b kept whole. whole_stays repo a b kept id whole
