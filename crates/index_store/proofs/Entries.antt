-- The entries of a snapshot's index stand in the order of an index.
use Rattle.std.proofs.Common.{◌≡◌, ℕ, ◌<◌, ◌^◌, Bool, true, false, ◌||◌, not, ◌==◌, suc, arith, List, [], ◌∷◌, ◌++◌, length, refl, ap}
use Rattle.std.specs.Prelude.{bytes_eq, codes}
use Rattle.std.specs.List.{list_any}
use Rattle.places.specs.All.{is_name, slash}
use Rattle.places.proofs.Texts.{and_both, not_true}
use Rattle.git_objects.specs.All.{Lacks, is_dir, is_entry}
use Rattle.index_file.specs.All.{AscendFrom, IsIndex}
use Rattle.snapshot.specs.All.{Below, Each, IsEntryName, IsOrdered, IsSorted, IsValidPath, mode_of}
use Rattle.snapshot.specs.Order.{down, name}
use Rattle.snapshot.specs.declared.entries.Entry.{Entry}
use Rattle.snapshot.specs.declared.entries.Leaf.{Leaf}
use Rattle.snapshot.specs.declared.entries.Leaf.TheVariants.{Git, Link, Pin}
use Rattle.snapshot.proofs.Order.{to_cmp}
use Rattle.index_store.specs.Indexes.{index_entries}

no_dir : (leaf : Leaf) → is_dir (mode_of leaf) ≡ false
no_dir (Git id true) = refl
no_dir (Git id false) = refl
no_dir (Link id) = refl
no_dir (Pin id) = refl

-- no name has a NUL, nor is one empty
record IsSome (text : List ℕ) : Type 0 where
  whole : Lacks 0 text
  some : Below [] text

no_nul : (n : List ℕ) → IsEntryName n → not (list_any (λ c. c == 0) n) ≡ true
unfolding is_entry is_name
no_nul n h =
    let front = (and_both _ (not (bytes_eq n (codes ".git"))) (and_both _ (not (bytes_eq n (codes ".dlrepo"))) h).0).0 in
    (and_both _ (not (list_any (λ c. c == 0) n)) (and_both _ (not (list_any (λ c. c == slash) n)) front).0).1

none_empty : IsEntryName [] → ⊥
unfolding is_entry is_name
none_empty is = cc is

named : (n : List ℕ) → IsEntryName n → IsSome n
named [] is = absurd (none_empty is)
named (b ∷ n) is = record { whole = not_true (list_any (λ c. c == 0) (b ∷ n)) (no_nul (b ∷ n) is); some = tt }

lacks_both : (b : ℕ) (x y : List ℕ) → Lacks b x → Lacks b y → Lacks b (x ++ y)
lacks_both b [] y h k = k
lacks_both b (a ∷ x) y h k = by (a == b) h (λ e. lacks_both b x y e k)
  where
    by : (t : Bool) → (t || list_any (λ c. c == b) x) ≡ false → (list_any (λ c. c == b) x ≡ false → list_any (λ c. c == b) (x ++ y) ≡ false) → (t || list_any (λ c. c == b) (x ++ y)) ≡ false
    by true e more = absurd (cc e)
    by false e more = more e

some_first : (x y : List ℕ) → Below [] x → Below [] (x ++ y)
some_first [] y none = absurd none
some_first (b ∷ x) y some = tt

valid_some : (path : List ℕ) → IsValidPath path → IsSome path
valid_some path (name n is) = named n is
valid_some path (down n p is rest) =
    let front = named n is in
    let back = valid_some p rest in
    record { whole = lacks_both 0 n (slash ∷ p) front.whole back.whole; some = some_first n (slash ∷ p) front.some }

-- each path is above the one before it
ascends : (last : List ℕ) (list : List Entry) → Each (λ f. Below last f.path) list → IsSorted list → Each (λ e. IsValidPath e.path) list → AscendFrom last (index_entries list)
ascends last [] above sorted valid = tt
ascends last (e ∷ list) above sorted valid = (
  record { leaf = no_dir e.leaf; above = to_cmp last e.path above.0; whole = (valid_some e.path valid.0).whole },
  ascends e.path list sorted.0 sorted.1 valid.1,
)

all_some : (list : List Entry) → Each (λ e. IsValidPath e.path) list → Each (λ f. Below [] f.path) list
all_some [] valid = tt
all_some (e ∷ list) valid = ((valid_some e.path valid.0).some, all_some list valid.1)

same_length : (list : List Entry) → length (index_entries list) ≡ length list
same_length [] = refl
same_length (e ∷ list) = ap (λ n. suc n) (same_length list)

pub is_index : (list : List Entry) → IsOrdered list → length list < 2 ^ 32 → IsIndex (index_entries list)
is_index list ordered few = record {
  few = omega (arith, few, same_length list);
  ascend = ascends [] list (all_some list ordered.valid) ordered.sorted ordered.valid;
}
