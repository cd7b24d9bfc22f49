use Rattle.std.proofs.Common.{◌≡◌, ◌++◌, map}
use Rattle.std.specs.List.{All}
use Rattle.git_objects.specs.All.{IsId}
use Rattle.git_objects.specs.declared.ids.Id.{Id}
use Rattle.object_store.proofs.searching.as_list.Given as goal

-- those so far, and those that are left
abbrev pub invariant-loop-id : goal.invariant-loop-id
invariant-loop-id l = record {
  whole : map (λ (id : Id). id.0) l.list.items ++ l.id-iterator ≡ l.fn.ids.keys;
  own : All (λ (id : Id). IsId id.0) l.list.items;
}
