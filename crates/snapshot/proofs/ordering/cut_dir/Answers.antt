use Rattle.std.proofs.Common.{lit<}
use Rattle.std.proofs.lemmas.Str.Pattern.{split_once_first}
use Rattle.snapshot.proofs.Trees.{cut_first}
use Rattle.snapshot.proofs.ordering.cut_dir.Goals as goal

pub returns : goal.returns
returns c = cut_first c.args.path.now c.split_once.result (split_once_first 47 c.args.path.now c.split_once.result c.split_once.ensures.cases (lit< tt))
