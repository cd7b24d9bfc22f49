use Rattle.std.proofs.Common.{◌≡◌, ◌++◌, true}
use Rattle.std.specs.List.{list_all}
use Rattle.file_store.specs.All.{is_item_name, is_there, names_in, as_items}
use Rattle.host_edge.proofs.listing.items_of.Given as goal

abbrev pub invariant-loop-name : goal.invariant-loop-name
invariant-loop-name l = record {
  made : l.items.items ++ as_items l.name-iterator ≡ as_items l.fn.kinds.entries;
  named : list_all is_item_name (names_in l.items.items) ≡ true;
  there : list_all (λ item. is_there item.kind) l.items.items ≡ true;
}
