-- Items met one after the other.
use Rattle.std.proofs.Common.{◌≡◌, ℕ, ◌+◌, Bool, true, false, cond, List, [], ◌∷◌, ◌++◌, map, length, Option, Some, None, refl, sym, ap, ◌∙◌, append_assoc, append-nil, arith, length-append}
use Rattle.std.specs.Prelude.{nat_le, codes}
use Rattle.places.specs.All.{Names, is_text, joined}
use Rattle.file_store.specs.All.{or_next}
use Rattle.faults.specs.declared.faults.Fault.{Fault}
use Rattle.faults.specs.declared.faults.Fault.TheVariants.{TooLarge, Dirty}
use Rattle.repository.specs.All.{item_limit}
use Rattle.tree_status.specs.Working.{ItemKind, Directory, Nested, Working}
use Rattle.tree_status.specs.Working.{item_fault, kind_fault, directory_of, fault_along}
use Rattle.tree_status.specs.Working.{files_among, path_in}
use Rattle.tree_status.specs.Walks.{Went}
use Rattle.tree_status.specs.declared.found.Found.{Found}

abbrev Some-items : Type 0
Some-items = List (List ℕ × ItemKind)

record NoFault (many : Bool) (first rest : Option Fault) : Type 0 where
  few : many ≡ false
  here : first ≡ None
  later : rest ≡ None

none_parts : (many : Bool) (first rest : Option Fault) → cond many (Some (TooLarge (codes ".") 100001)) (or_next first rest) ≡ None → NoFault many first rest
none_parts true first rest e = absurd (cc e)
none_parts false (Some fault) rest e = absurd (cc e)
none_parts false None rest e = record { few = refl; here = refl; later = e }

module _ (limits : List ℕ → ℕ) (root : Names) where
  along_after : (count : ℕ) (a b : Some-items) → fault_along limits root count a ≡ None → fault_along limits root count (a ++ b) ≡ fault_along limits root (count + length a) b
  along_after count [] b none = let same : count ≡ count + 0 = omega arith in ap (λ (n : ℕ). fault_along limits root n b) same
  along_after count (item ∷ a) b none =
      let p = none_parts (nat_le item_limit count) (item_fault limits root item.0 item.1) (fault_along limits root (count + 1) a) none in
      let size : count + 1 + length a ≡ count + length (item ∷ a) = omega arith in
      (λ i. cond (p.few i) (Some (TooLarge (codes ".") 100001)) (or_next (p.here i) (fault_along limits root (count + 1) (a ++ b))))
      ∙ along_after (count + 1) a b p.later
      ∙ ap (λ (n : ℕ). fault_along limits root n b) size

  pub along_first : (count : ℕ) (a b : Some-items) (fault : Fault) → fault_along limits root count a ≡ Some fault → fault_along limits root count (a ++ b) ≡ Some fault
  along_first count [] b fault e = absurd (cc e)
  along_first count (item ∷ a) b fault e = by (nat_le item_limit count) (item_fault limits root item.0 item.1) (along_first (count + 1) a b fault) e
    where
      by : (many : Bool) (first : Option Fault) → (fault_along limits root (count + 1) a ≡ Some fault → fault_along limits root (count + 1) (a ++ b) ≡ Some fault)
          → cond many (Some (TooLarge (codes ".") 100001)) (or_next first (fault_along limits root (count + 1) a)) ≡ Some fault → cond many (Some (TooLarge (codes ".") 100001)) (or_next first (fault_along limits root (count + 1) (a ++ b))) ≡ Some fault
      by true first more e = e
      by false (Some f) more e = e
      by false None more e = more e

  files_append : (a b : Some-items) → files_among (a ++ b) ≡ files_among a ++ files_among b
  files_append [] b = refl
  files_append ((path, Directory) ∷ a) b = files_append a b
  files_append ((path, Nested) ∷ a) b = files_append a b
  files_append ((path, Working bytes) ∷ a) b = ap (λ l. (path, bytes) ∷ l) (files_append a b)

  map_append : {A B : Type 0} (f : A → B) (a b : List A) → map f (a ++ b) ≡ map f a ++ map f b
  map_append f [] b = refl
  map_append f (x ∷ a) b = ap (λ l. f x ∷ l) (map_append f a b)

  pub went_none : (found : Found) → Went limits root [] found found
  went_none found = record { fault = refl; count = omega arith; paths = sym (append-nil found.paths.items) }

  pub went_more : (a b : Some-items) (old mid new : Found) → Went limits root a old mid → Went limits root b mid new → Went limits root (a ++ b) old new
  went_more a b old mid new first second = record {
    fault = along_after old.count a b first.fault ∙ ap (λ (n : ℕ). fault_along limits root n b) (sym first.count) ∙ second.fault;
    count = omega (arith, first.count, second.count, length-append a b);
    paths = second.paths ∙ ap (λ l. l ++ map path_in (files_among b)) first.paths
        ∙ append_assoc old.paths.items (map path_in (files_among a)) (map path_in (files_among b))
        ∙ ap (λ l. old.paths.items ++ l) (sym (ap (map path_in) (files_append a b) ∙ map_append path_in (files_among a) (files_among b)));
  }

  pub went_fails : (a b rest : Some-items) (old mid : Found) (fault : Fault) → Went limits root a old mid → fault_along limits root mid.count b ≡ Some fault → fault_along limits root old.count (a ++ (b ++ rest)) ≡ Some fault
  went_fails a b rest old mid fault first e =
      along_after old.count a (b ++ rest) first.fault ∙ ap (λ (n : ℕ). fault_along limits root n (b ++ rest)) (sym first.count) ∙ along_first mid.count b rest fault e

  -- no item is refused as gone
  kind_not_dirty : (path at : List ℕ) (kind : ItemKind) → kind_fault limits path kind ≡ Some (Dirty at) → ⊥
  kind_not_dirty path at Directory e = cc e
  kind_not_dirty path at Nested e = cc e
  kind_not_dirty path at (Working bytes) e = by (nat_le (length bytes) (limits path)) e
    where
      by : (b : Bool) → cond b None (Some (TooLarge path (length bytes))) ≡ Some (Dirty at) → ⊥
      by true e = cc e
      by false e = cc e

  item_not_dirty : (path at : List ℕ) (kind : ItemKind) → item_fault limits root path kind ≡ Some (Dirty at) → ⊥
  item_not_dirty path at kind e = by (is_text (joined root path)) e
    where
      by : (b : Bool) → cond b (kind_fault limits path kind) (Some (TooLarge (directory_of path) (length (joined root path)))) ≡ Some (Dirty at) → ⊥
      by true e = kind_not_dirty path at kind e
      by false e = cc e

  pub never_dirty : (count : ℕ) (some : Some-items) (at : List ℕ) → fault_along limits root count some ≡ Some (Dirty at) → ⊥
  never_dirty count [] at e = cc e
  never_dirty count (item ∷ some) at e = by (nat_le item_limit count) (item_fault limits root item.0 item.1) refl (never_dirty (count + 1) some at) e
    where
      by : (many : Bool) (first : Option Fault) → item_fault limits root item.0 item.1 ≡ first → (fault_along limits root (count + 1) some ≡ Some (Dirty at) → ⊥)
          → cond many (Some (TooLarge (codes ".") 100001)) (or_next first (fault_along limits root (count + 1) some)) ≡ Some (Dirty at) → ⊥
      by true first is rest e = cc e
      by false (Some fault) is rest e = item_not_dirty item.0 at item.1 (is ∙ e)
      by false None is rest e = rest e
