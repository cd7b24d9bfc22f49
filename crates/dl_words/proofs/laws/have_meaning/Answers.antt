use Rattle.dl_words.proofs.Read.{have_meaning}
use Rattle.dl_words.proofs.laws.have_meaning.Goals as goal

pub returns : goal.returns
returns c = have_meaning
