use Rattle.std.proofs.Common.{take}
use Rattle.object_store.specs.Prefixes.{Adds, AllBegin, is_item_with}
use Rattle.object_store.proofs.searching.add_first.Given as goal

-- the items so far were added
abbrev pub invariant-loop-item : goal.invariant-loop-item
invariant-loop-item g l =
    record {
      adds : Adds (is_item_with l.digits l.pair (take l.item-index l.item-items)) l.fn.ids l.ids;
      begin : AllBegin l.digits l.ids;
    }
