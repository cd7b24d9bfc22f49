-- Places that are noted in a set.
use Rattle.std.proofs.Common.{◌≡◌, ℕ, Bool, true, false, cond, not, ◌&&◌, ◌||◌, List, Option, Some, None, refl, sym, ◌∙◌, ap, subst}
use Rattle.std.specs.Prelude.{is_some, Vec, Result, Ok, Err, IfOk}
use Rattle.std.specs.declared.alloc.Global.{Global}
use Rattle.std.specs.List.{list_any, filter}
use Rattle.std.specs.List.Sorted.{IsStrictlySortedBy}
use Rattle.std.specs.Map.{lookup, keys_of}
use Rattle.std.specs.BTreeMap.{is_at}
use Rattle.std.specs.BTreeSet.{BTreeSet, IsEmpty, IsOrdered, contains, Updates}
use Rattle.std.proofs.lemmas.List.Kept.{IsStrictlySortedBy-filter}
use Rattle.std.proofs.lemmas.Map.Made.{is_some-lookup}
use Rattle.std.proofs.lemmas.Map.Views.{any-filter_same}
use Rattle.places.specs.All.{Names, place_cmp, place_eq, Ground, file_at, stands}
use Rattle.places.proofs.Ties.{place_eq-cmp, same_names}
use Rattle.file_store.specs.Disk.{Disk, is_open, same_file}
use Rattle.file_store.specs.Memory.Images.{AreOpen}
use Rattle.file_store.specs.Memory.Lists.{ground_of}
use Rattle.file_store.proofs.Stored.{Entries, bytes_of, file_at-ground_of, at_place}

abbrev Places : Type 0
Places = BTreeSet (Names)

cond-or : (b x : Bool) → cond b true x ≡ (b || x)
cond-or true x = refl
cond-or false x = refl

-- one place more
pub contains_more : (s t : Places) (p q : Names) → Updates place_cmp s t p true → contains place_cmp t q ≡ (place_eq q p || contains place_cmp s q)
contains_more s t p q updates = updates.0 q ∙ ap (λ b. cond b true (contains place_cmp s q)) (at_place p q) ∙ cond-or (place_eq q p) (contains place_cmp s q)

or_turned : (b x y : Bool) → ((b || x) || y) ≡ (x || (b || y))
or_turned true true y = refl
or_turned true false y = refl
or_turned false x y = refl

pub note_more : (s t : Places) (p p' q : Names) (rest : Bool) → p' ≡ p → Updates place_cmp s t p' true
    → (contains place_cmp t q || rest) ≡ (contains place_cmp s q || (is_at (place_cmp q) p || rest))
note_more s t p p' q rest is updates =
    ap (λ b. b || rest) (contains_more s t p' q updates ∙ ap (λ (z : Names). place_eq q z || contains place_cmp s q) is)
    ∙ or_turned (place_eq q p) (contains place_cmp s q) rest
    ∙ ap (λ b. contains place_cmp s q || (b || rest)) (place_eq-cmp q p)

is_some-bytes_of : (o : Option (_)) → is_some (bytes_of o) ≡ is_some o
is_some-bytes_of None = refl
is_some-bytes_of (Some v) = refl

-- a file stands where its place is a key
pub keys-stands : (es : Entries) (q : Names) → list_any (is_at (place_cmp q)) (keys_of es) ≡ stands (ground_of es) q
keys-stands es q = sym (ap is_some (file_at-ground_of es q) ∙ is_some-bytes_of (lookup (is_at (place_cmp q)) es) ∙ is_some-lookup (is_at (place_cmp q)) es)

-- THE OPEN PLACES are among those that have a file or are torn
module _ (d : Disk) (q : Names) where
  or_torn : (now safe : Option (List ℕ)) → (d.torn q || not (same_file now safe)) ≡ true → ((is_some now || is_some safe) || d.torn q) ≡ true
  or_torn None None h = by (d.torn q) h
    where
      by : (b : Bool) → (b || false) ≡ true → (false || b) ≡ true
      by true h = refl
      by false h = h
  or_torn None (Some b) h = refl
  or_torn (Some a) safe h = refl

  open_named : is_open d q ≡ true → ((stands d.now q || stands d.safe q) || d.torn q) ≡ true
  open_named h = or_torn (file_at d.now q) (file_at d.safe q) h

among : (b c : Bool) → (b ≡ true → c ≡ true) → (b && c) ≡ b
among true c h = h refl
among false c h = refl

pub are_open : (d : Disk) (named : Places) (places : List Names)
    → ((q : Names) → contains place_cmp named q ≡ (((false || stands d.now q) || stands d.safe q) || d.torn q))
    → places ≡ filter (is_open d) named.keys → IsOrdered place_cmp named → AreOpen d places
are_open d named places all is ordered = record {
  all = λ q.
      ap (list_any (place_eq q)) is
      ∙ any-filter_same (place_eq q) (is_open d) (is_open d q) (λ k here. ap (is_open d) (sym ((same_names q k).0 here))) named.keys
      ∙ among (is_open d q) (list_any (place_eq q) named.keys) (λ here.
      (λ i. list_any (λ k. place_eq-cmp q k i) named.keys) ∙ all q ∙ open_named d q here);
  ascending = subst (λ (ps : List Names). IsStrictlySortedBy place_cmp ps) (sym is) (IsStrictlySortedBy-filter place_cmp (is_open d) named.keys ordered);
}

pub open_found : {E : Type 0} (r : Result (Vec (Names) Global) E) (d : Disk) (none named : Places) → IsEmpty none
    → ((q : Names) → contains place_cmp named q ≡ (((contains place_cmp none q || stands d.now q) || stands d.safe q) || d.torn q))
    → IfOk r (λ places. places.items ≡ filter (is_open d) named.keys) → IfOk r (λ _. IsOrdered place_cmp named) → IfOk r (λ places. AreOpen d places.items)
open_found (Ok places) d none named empty all is ordered = are_open d named places.items
    (λ q. all q ∙ ap (λ ks. ((list_any (is_at (place_cmp q)) ks || stands d.now q) || stands d.safe q) || d.torn q) empty) is ordered
open_found (Err e) d none named empty all is ordered = tt

-- ONE MOMENT AND THE NEXT
pub same_disk : (d e : Disk) → d.now ≡ e.now → d.safe ≡ e.safe → ((q : Names) → d.torn q ≡ e.torn q) → d ≡ e
same_disk d e now safe torn = λ i. record { now = now i; safe = safe i; torn = λ q. torn q i }

-- whether a rename tears its target or not
pub torn_not : (q to : Names) (tears old : Bool) → tears ≡ false → old ≡ ((place_eq q to && tears) || old)
torn_not q to tears old not_so = sym (ap (λ b. (place_eq q to && b) || old) not_so ∙ by (place_eq q to))
  where
    by : (b : Bool) → ((b && false) || old) ≡ old
    by true = refl
    by false = refl

pub torn_so : (q to : Names) (tears old : Bool) → tears ≡ true → (place_eq q to || old) ≡ ((place_eq q to && tears) || old)
torn_so q to tears old so = sym (ap (λ b. (place_eq q to && b) || old) so ∙ by (place_eq q to))
  where
    by : (b : Bool) → ((b && true) || old) ≡ (b || old)
    by true = refl
    by false = refl
