use Rattle.dl_words.proofs.Read.{ends_once}
use Rattle.dl_words.proofs.laws.ends_once.Goals as goal

pub returns : goal.returns
returns c = ends_once
