use Rattle.std.proofs.Common.{sym, subst}
use Rattle.snapshot.specs.Order.{IsPathList}
use Rattle.snapshot.proofs.Paths.{paths_listed}
use Rattle.snapshot.proofs.Standing.{stands_valid}
use Rattle.snapshot.proofs.laws.path_lists.Goals as goal

pub returns : goal.returns
returns c = record {
  read = λ repo g commit read flat. subst IsPathList (sym flat.tree.same) (paths_listed flat.tree.dir (stands_valid repo g flat.fields.tree.0 flat.tree.dir flat.tree.stands));
  built = λ list root trees built. subst IsPathList (sym built.same) (paths_listed built.dir built.valid);
}
