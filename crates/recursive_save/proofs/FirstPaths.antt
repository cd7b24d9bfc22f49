-- The snapshot of a new dataset's first commit.
use Rattle.std.proofs.Common.{false, [], ◌∷◌, codes}
use Rattle.git_objects.specs.declared.entries.Mode.TheVariants.{Dir}
use Rattle.git_objects.specs.declared.ids.Id.{Id}
use Rattle.snapshot.specs.All.{IsOrdered}
use Rattle.snapshot.specs.Order.{down, name}
use Rattle.snapshot.specs.declared.entries.Leaf.TheVariants.{Git}
use Rattle.recursive_save.proofs.FirstFacts.{config_is_entry, datalad_is_entry}

-- its one path is valid
pub first_ordered : (id : Id) → IsOrdered (record { path = codes ".datalad/config"; leaf = Git id false } ∷ [])
first_ordered id = record {
  sorted = (tt, tt);
  valid = (down (codes ".datalad") (codes "config") (datalad_is_entry Dir (record { 0 = [] })) (name (codes "config") (config_is_entry Dir (record { 0 = [] }))), tt);
}
