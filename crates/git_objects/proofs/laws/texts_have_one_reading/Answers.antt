use Rattle.std.proofs.Common.{◌∙◌, sym}
use Rattle.git_objects.proofs.BadPlaces.{tree_place, commit_place}
use Rattle.git_objects.proofs.CommitTexts.{commit_once}
use Rattle.git_objects.proofs.Decimals.{number_once}
use Rattle.git_objects.proofs.ObjectTexts.{kind_once}
use Rattle.git_objects.proofs.TreeTexts.{tree_once, bad_no_tree}
use Rattle.git_objects.proofs.laws.texts_have_one_reading.Goals as goal

pub returns : goal.returns
returns c = record {
  number = λ text m n h k. number_once m n h.size k.size (sym h.printed ∙ k.printed);
  kind = λ k l x y e. (kind_once k l x y e).0;
  body = λ k l x y e. (kind_once k l x y e).1;
  tree = tree_once;
  no_tree = bad_no_tree;
  tree_place = tree_place;
  commit = commit_once;
  no_commit = λ body at fields bad h. bad.none fields h;
  commit_place = commit_place;
}
