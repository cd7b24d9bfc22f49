use Rattle.std.proofs.Common.{◌≡◌, ℕ, List, fold}
use Rattle.std.specs.List.{AllByRecursion}
use Rattle.std.specs.BTreeMap.{keys, get_by_text}
use Rattle.places.specs.All.{IsPlace}
use Rattle.file_store.specs.Named.{seen, seen_among}
use Rattle.file_store.proofs.memory.names.kinds_below.Given as goal

abbrev pub invariant-loop-place : goal.invariant-loop-place
invariant-loop-place l =
    ((name : List ℕ) → fold (seen l.root name) (get_by_text l.kinds name) l.place-iterator ≡ seen_among l.root name (keys l.files))
    × (AllByRecursion IsPlace l.place-iterator → AllByRecursion IsPlace (keys l.files))
