use Rattle.std.proofs.Common.{lit<}
use Rattle.std.proofs.lemmas.Str.Pattern.{strip_suffix_char}
use Rattle.tree_status.proofs.walking.without_slash.Goals as goal

pub returns : goal.returns
returns c = strip_suffix_char 47 c.args.text.now _ c.strip_suffix.ensures.cases (lit< tt)
