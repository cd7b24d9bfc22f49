use Rattle.std.proofs.Common.{◌≡◌, ◌||◌, ℕ, List}
use Rattle.std.specs.List.{list_any}
use Rattle.std.specs.BTreeMap.{keys, is_at}
use Rattle.std.specs.BTreeSet.{contains}
use Rattle.places.specs.All.{Names, place_cmp}
use Rattle.file_store.proofs.memory.contents.note_keys.Given as goal

abbrev pub invariant-loop-place : goal.invariant-loop-place
invariant-loop-place l =
    (q : Names) → (contains place_cmp l.named q || list_any (is_at (place_cmp q)) l.place-iterator)
    ≡ (contains place_cmp l.fn.named q || list_any (is_at (place_cmp q)) (keys l.files))
