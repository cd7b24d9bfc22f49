-- Which directory the held objects spell.
use Rattle.std.specs.Prelude.{ℕ, List}
use Rattle.places.specs.All.{Names, Ground}
use Rattle.object_store.specs.All.{IsTreeAt}
use Rattle.snapshot.specs.Dirs.{Dir, entries_of, root_id, EachSub}

-- The tree of each directory in it is held.
abbrev pub SubsStand : Names → Ground → Dir → Type 0
SubsStand repo g dir = EachSub (λ sub. IsTreeAt repo (root_id sub) g (entries_of sub)) dir

-- The objects that are held spell this directory from an id on.
pub record Stands (repo : Names) (id : List ℕ) (g : Ground) (dir : Dir) : Type 0 where
  pub tree : IsTreeAt repo id g (entries_of dir)
  pub subs : SubsStand repo g dir
