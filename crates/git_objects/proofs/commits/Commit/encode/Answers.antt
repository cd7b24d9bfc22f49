use Rattle.std.proofs.Common.{arith}
use Rattle.std.proofs.lemmas.Grind.{common_steps}
use Rattle.git_objects.proofs.Lines.{grammar_tested}
use Rattle.git_objects.proofs.commits.Commit.encode.Goals as goal

pub returns : goal.returns
returns c = record {
  tree = c.in_ok-append_links.ensures.tree;
  parents = c.in_ok-append_links.ensures.parents;
  author = c.in_ok-append_people.ensures.author;
  committer = c.in_ok-append_people.ensures.committer;
  extra = (grammar_tested c.args.self.now.extra).0 c.args.self.now.valid;
  text = grind (arith, common_steps);
}
