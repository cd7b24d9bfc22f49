use Rattle.dl_words.proofs.Read.{one_meaning}
use Rattle.dl_words.proofs.laws.one_meaning.Goals as goal

pub returns : goal.returns
returns c = one_meaning
