-- The names of a map of kinds ascend.
use Rattle.std.proofs.Common.{◌≡◌, List, [], ◌∷◌, sym, subst}
use Rattle.std.specs.Prelude.{String, string_bytes, IsTrue}
use Rattle.std.specs.declared.alloc.Global.{Global}
use Rattle.std.specs.declared.cmp.Ordering.TheVariants.{Less}
use Rattle.std.specs.List.{AllByRecursion, list_all}
use Rattle.std.specs.List.Sorted.{IsStrictlySortedBy}
use Rattle.std.specs.Map.{keys_of}
use Rattle.std.specs.BTreeMap.{BTreeMap, IsOrdered}
use Rattle.std.specs.String.{string_cmp}
use Rattle.std.specs.Ordering.{nat_cmp}
use Rattle.std.specs.Cmp.Lexicographic.{slice_cmp}
use Rattle.file_store.specs.Kinds.{is_item_name, names_in, AreThere, AreListed}
use Rattle.file_store.specs.Named.{as_items}
use Rattle.file_store.specs.declared.kinds.Kind.{Kind}
use Rattle.file_store.specs.declared.kinds.Item.{Item}

abbrev Kinds : Type 0
Kinds = List (String Global × Kind)

after_all : (k : String Global) (ks : Kinds) → AllByRecursion (λ y. string_cmp k y ≡ Less) (keys_of ks) → AllByRecursion (λ t. slice_cmp nat_cmp (string_bytes k) t ≡ Less) (names_in (as_items ks))
after_all k [] less = tt
after_all k (l ∷ ks) less = (less.0, after_all k ks less.1)

ascends : (ks : Kinds) → IsStrictlySortedBy string_cmp (keys_of ks) → IsStrictlySortedBy (slice_cmp nat_cmp) (names_in (as_items ks))
unfolding IsStrictlySortedBy
ascends [] sorted = tt
ascends (k ∷ ks) sorted = (after_all k.0 ks sorted.0, ascends ks sorted.1)

pub are_listed : (kinds : BTreeMap (String Global) Kind) (items : List Item) → items ≡ as_items kinds.entries → IsTrue (list_all is_item_name (names_in items)) → AreThere items → IsOrdered string_cmp kinds → AreListed items
are_listed kinds items is names there ordered = record {
  names = names;
  there = there;
  ascending = subst (λ (l : List Item). IsStrictlySortedBy (slice_cmp nat_cmp) (names_in l)) (sym is) (ascends kinds.entries ordered);
}
