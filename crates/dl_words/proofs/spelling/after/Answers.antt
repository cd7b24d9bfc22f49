use Rattle.dl_words.proofs.Spellings.{after_stripped}
use Rattle.dl_words.proofs.spelling.after.Goals as goal

pub returns : goal.returns
returns c = after_stripped c.args.front.now c.args.word.now c.strip_prefix.result c.strip_prefix.ensures.cases
