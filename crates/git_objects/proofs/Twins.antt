-- Entries in order, no directory with a file's name: that makes a tree, and each tree has both.
use Rattle.std.proofs.Common.{◌≡◌, ℕ, zero, suc, ◌+◌, ◌-◌, ◌<◌, Bool, true, false, not, ◌&&◌, ◌||◌, List, [], ◌∷◌, ◌++◌, length, get_or, refl, sym, ap, subst, ◌∙◌, append-nil, length-append, arith}
use Rattle.std.specs.Prelude.{◌==◌, ◌↔◌, IsTrue, bytes_eq}
use Rattle.std.specs.declared.cmp.Ordering.{Ordering}
use Rattle.std.specs.declared.cmp.Ordering.TheVariants.{Less, Equal, Greater}
use Rattle.std.specs.Cmp.Lexicographic.{slice_cmp}
use Rattle.std.specs.List.{IsAllAdjacentAnswer, list_all, list_any}
use Rattle.std.specs.Ordering.{nat_cmp, is_lt}
use Rattle.std.proofs.lemmas.Bool.{and_parts}
use Rattle.std.proofs.lemmas.Cmp.{nat_list_cmp_total, tied_itself}
use Rattle.std.proofs.lemmas.List.Folds.{list_any-append, list_all-append}
use Rattle.std.proofs.lemmas.Slice.Eq.{bytes_eq-Decides}
use Rattle.places.specs.All.{slash, is_name}
use Rattle.places.proofs.Texts.{facts, or_neither, not_true}
use Rattle.git_objects.specs.Entries.{is_dir, name_end, sort_key, is_entry, sorts_below, is_before}
use Rattle.git_objects.specs.Entries.{is_tree}
use Rattle.git_objects.specs.Sorted.{IsAscending, has_key, is_twin, has_twins}
use Rattle.git_objects.specs.declared.entries.TreeEntry.{TreeEntry}

-- ---- tests

by_truth : {P : Type 0} (b : Bool) → (b ≡ true → P) → (b ≡ false → P) → P
by_truth true so not_so = so refl
by_truth false so not_so = not_so refl

both : (a b : Bool) → a ≡ true → b ≡ true → (a && b) ≡ true
both a b h k = λ i. h i && k i

neither : (a b : Bool) → a ≡ false → b ≡ false → (a || b) ≡ false
neither a b h k = λ i. h i || k i

not_false : (b : Bool) → b ≡ false → not b ≡ true
not_false b h = ap not h

never : {P : Type 0} (b : Bool) → b ≡ true → b ≡ false → P
never b h k = absurd (cc (sym h ∙ k))

with_false : (a b : Bool) → b ≡ false → (a && b) ≡ false
with_false true b h = h
with_false false b h = refl

same_bytes : (x y : List ℕ) → bytes_eq x y ≡ true → x ≡ y
same_bytes x y h = (bytes_eq-Decides x y).0 h

bytes_same : (x y : List ℕ) → x ≡ y → bytes_eq x y ≡ true
bytes_same x y h = (bytes_eq-Decides x y).1 h

bytes_differ : (x y : List ℕ) → (x ≡ y → ⊥) → bytes_eq x y ≡ false
bytes_differ x y h = by_truth (bytes_eq x y) (λ e. absurd (h (same_bytes x y e))) (λ e. e)

all_weaker : (p q : TreeEntry → Bool) → ((e : TreeEntry) → p e ≡ true → q e ≡ true) → (es : List TreeEntry) → list_all p es ≡ true → list_all q es ≡ true
all_weaker p q h [] k = refl
all_weaker p q h (e ∷ es) k =
    let parts = and_parts (p e) (list_all p es) k in
    both (q e) (list_all q es) (h e parts.0) (all_weaker p q h es parts.1)

-- ---- the order

less_is : (o : Ordering) → is_lt o ≡ true → o ≡ Less
less_is Less h = refl
less_is Equal h = absurd (cc h)
less_is Greater h = absurd (cc h)

below_trans : (a b c : TreeEntry) → sorts_below a b ≡ true → sorts_below b c ≡ true → sorts_below a c ≡ true
below_trans a b c h k =
    ap is_lt (nat_list_cmp_total.trans (sort_key a) (sort_key b) (sort_key c) (less_is (slice_cmp nat_cmp (sort_key a) (sort_key b)) h) (less_is (slice_cmp nat_cmp (sort_key b) (sort_key c)) k))

not_itself : (x y : List ℕ) → x ≡ y → is_lt (slice_cmp nat_cmp x y) ≡ false
not_itself x y e = ap (λ (z : List ℕ). is_lt (slice_cmp nat_cmp x z)) (sym e) ∙ ap is_lt (tied_itself nat_list_cmp_total x)

ascending_tail : (e : TreeEntry) (es : List TreeEntry) → IsAscending (e ∷ es) → IsAscending es
ascending_tail e es h k d lt =
    let up : suc k + 1 ≡ suc (k + 1) = omega arith in
    rw up at (h (suc k) d (omega arith))

ascending_first : (e f : TreeEntry) (es : List TreeEntry) → IsAscending (e ∷ f ∷ es) → sorts_below e f ≡ true
ascending_first e f es h = h 0 e (omega arith)

-- each entry is below all that follow
above_all : (e : TreeEntry) (es : List TreeEntry) → IsAscending (e ∷ es) → list_all (sorts_below e) es ≡ true
above_all e [] h = refl
above_all e (f ∷ es) h =
    let first = ascending_first e f es h in
    both (sorts_below e f) (list_all (sorts_below e) es) first
    (all_weaker (sorts_below f) (sorts_below e) (λ g k. below_trans e f g first k) es (above_all f es (ascending_tail e (f ∷ es) h)))

-- ---- entries that pass the tests make a tree

-- of one name, a file stands before a directory
kinds_of_one_name : (d g : Bool) (n m : List ℕ) → n ≡ m → is_lt (slice_cmp nat_cmp (n ++ name_end d) (m ++ name_end g)) ≡ true → (d ≡ false) × (g ≡ true)
kinds_of_one_name true true n m e h = never _ h (not_itself _ _ (ap (λ (z : List ℕ). z ++ slash ∷ []) e))
kinds_of_one_name false false n m e h = never _ h (not_itself _ _ (ap (λ (z : List ℕ). z ++ []) e))
kinds_of_one_name false true n m e h = (refl, refl)
kinds_of_one_name true false n m e h = absurd (longer n (subst (λ (z : List ℕ). is_lt (slice_cmp nat_cmp (n ++ slash ∷ []) (z ++ [])) ≡ true) (sym e) h))
  where
    step : (x : ℕ) (o : Ordering) → nat_cmp x x ≡ Equal
    step x o = grind arith

    longer : (x : List ℕ) → is_lt (slice_cmp nat_cmp (x ++ slash ∷ []) (x ++ [])) ≡ true → ⊥
    longer [] k = cc k
    longer (x ∷ xs) k = longer xs (rw (step x Equal) at k)

pair_apart : (all : List TreeEntry) (e f : TreeEntry) → sorts_below e f ≡ true → is_twin all f ≡ false → has_key (sort_key e) all ≡ true → bytes_eq e.name f.name ≡ false
pair_apart all e f below twin there =
    by_truth (bytes_eq e.name f.name)
    (λ same.
    let name = same_bytes e.name f.name same in
    let kinds = kinds_of_one_name (is_dir e.mode) (is_dir f.mode) e.name f.name name below in
    let key : sort_key e ≡ f.name = ap (λ (d : Bool). e.name ++ name_end d) kinds.0 ∙ append-nil e.name ∙ name in
    never (is_twin all f) (both (is_dir f.mode) (has_key f.name all) kinds.1 (ap (λ (z : List ℕ). has_key z all) (sym key) ∙ there)) twin)
    (λ differ. differ)

all_before : (all : List TreeEntry) (e : TreeEntry) (es : List TreeEntry) → list_all (sorts_below e) es ≡ true → list_any (is_twin all) es ≡ false → has_key (sort_key e) all ≡ true → list_all (is_before e) es ≡ true
all_before all e [] below twins there = refl
all_before all e (f ∷ es) below twins there =
    let first = and_parts (sorts_below e f) (list_all (sorts_below e) es) below in
    let single = or_neither (is_twin all f) (list_any (is_twin all) es) twins in
    both (is_before e f) (list_all (is_before e) es)
    (both (sorts_below e f) (not (bytes_eq e.name f.name)) first.0 (not_false (bytes_eq e.name f.name) (pair_apart all e f first.0 single.0 there)))
    (all_before all e es first.1 single.1 there)

some_first : (a b : Bool) → a ≡ true → (a || b) ≡ true
some_first true b h = refl
some_first false b h = absurd (cc h)

some_later : (a b : Bool) → b ≡ true → (a || b) ≡ true
some_later true b h = refl
some_later false b h = h

tree_within : (all es : List TreeEntry) → ((key : List ℕ) → has_key key es ≡ true → has_key key all ≡ true)
    → list_all is_entry es ≡ true → IsAscending es → list_any (is_twin all) es ≡ false → is_tree es ≡ true
tree_within all [] within named ascending twins = refl
tree_within all (e ∷ es) within named ascending twins =
    let names = and_parts (is_entry e) (list_all is_entry es) named in
    let single = or_neither (is_twin all e) (list_any (is_twin all) es) twins in
    let there = within (sort_key e) (some_first (bytes_eq (sort_key e) (sort_key e)) (has_key (sort_key e) es) (bytes_same (sort_key e) (sort_key e) refl)) in
    both (is_entry e && list_all (is_before e) es) (is_tree es)
    (both (is_entry e) (list_all (is_before e) es) names.0 (all_before all e es (above_all e es ascending) single.1 there))
    (tree_within all es (λ key k. within key (some_later (bytes_eq (sort_key e) key) (has_key key es) k)) names.1 (ascending_tail e es ascending) single.1)

pub tree_from_tests : (es : List TreeEntry) → list_all is_entry es ≡ true → IsAscending es → has_twins es ≡ false → is_tree es ≡ true
tree_from_tests es named ascending twins = tree_within es es (λ key k. k) named ascending twins

-- ---- a tree passes the tests

pub record TreeParts (e : TreeEntry) (es : List TreeEntry) : Type 0 where
  pub named : is_entry e ≡ true
  pub before : list_all (is_before e) es ≡ true
  pub rest : is_tree es ≡ true

pub tree_parts : (e : TreeEntry) (es : List TreeEntry) → is_tree (e ∷ es) ≡ true → TreeParts e es
tree_parts e es h =
    let outer = and_parts (is_entry e && list_all (is_before e) es) (is_tree es) h in
    let inner = and_parts (is_entry e) (list_all (is_before e) es) outer.0 in
    record { named = inner.0; before = inner.1; rest = outer.1 }

pub named_from_tree : (es : List TreeEntry) → is_tree es ≡ true → list_all is_entry es ≡ true
named_from_tree [] h = refl
named_from_tree (e ∷ es) h =
    let parts = tree_parts e es h in
    both (is_entry e) (list_all is_entry es) parts.named (named_from_tree es parts.rest)

pub ascending_from_tree : (es : List TreeEntry) → is_tree es ≡ true → IsAscending es
ascending_from_tree [] h k d lt = absurd (omega arith)
ascending_from_tree (e ∷ []) h k d lt = absurd (omega arith)
ascending_from_tree (e ∷ f ∷ es) h zero d lt =
    let first = and_parts (is_before e f) (list_all (is_before e) es) (tree_parts e (f ∷ es) h).before in
    (and_parts (sorts_below e f) (not (bytes_eq e.name f.name)) first.0).0
ascending_from_tree (e ∷ f ∷ es) h (suc k) d lt =
    let up : suc k + 1 ≡ suc (k + 1) = omega arith in
    rw up (ascending_from_tree (f ∷ es) (tree_parts e (f ∷ es) h).rest k d (omega arith))

pub whole_name : (e : TreeEntry) → is_entry e ≡ true → list_any (λ b. b == slash) e.name ≡ false
unfolding is_entry
whole_name e h =
    let outer = and_parts (is_name e.name && not (bytes_eq e.name _)) (not (bytes_eq e.name _)) h in
    (facts e.name (and_parts (is_name e.name) (not (bytes_eq e.name _)) outer.0).0).whole

-- what one entry is sorted by is no other's name
key_apart : (d : Bool) (name : List ℕ) (e : TreeEntry) → is_entry e ≡ true → (name ≡ e.name → ⊥) → name ++ name_end d ≡ e.name → ⊥
key_apart false name e named differ h = differ (sym (append-nil name) ∙ h)
key_apart true name e named differ h =
    let there : list_any (λ b. b == slash) (name ++ slash ∷ []) ≡ true = list_any-append (λ b. b == slash) name (slash ∷ []) ∙ some_later (list_any (λ b. b == slash) name) true refl in
    never (list_any (λ b. b == slash) e.name) (ap (list_any (λ b. b == slash)) (sym h) ∙ there) (whole_name e named)

own_key : (d : Bool) (name : List ℕ) → d ≡ true → name ++ name_end d ≡ name → ⊥
own_key false name e h = cc e
own_key true name e h =
    let longer = length-append name (slash ∷ []) in
    let same = ap length h in
    omega arith

pub names_differ : (e f : TreeEntry) → is_before e f ≡ true → e.name ≡ f.name → ⊥
names_differ e f h same =
    let parts = and_parts (sorts_below e f) (not (bytes_eq e.name f.name)) h in
    never (bytes_eq e.name f.name) (bytes_same e.name f.name same) (not_true (bytes_eq e.name f.name) parts.1)

-- no later entry is sorted by an earlier one's name
no_key_after : (e : TreeEntry) (es : List TreeEntry) → is_entry e ≡ true → list_all (is_before e) es ≡ true → has_key e.name es ≡ false
no_key_after e [] named before = refl
no_key_after e (f ∷ es) named before =
    let parts = and_parts (is_before e f) (list_all (is_before e) es) before in
    neither (bytes_eq (sort_key f) e.name) (has_key e.name es)
    (bytes_differ (sort_key f) e.name (key_apart (is_dir f.mode) f.name e named (λ same. names_differ e f parts.0 (sym same)))) (no_key_after e es named parts.1)

first_no_twin : (e : TreeEntry) (es : List TreeEntry) → is_entry e ≡ true → list_all (is_before e) es ≡ true → is_twin (e ∷ es) e ≡ false
first_no_twin e es named before =
    by_truth (is_dir e.mode)
    (λ dir. with_false (is_dir e.mode) (has_key e.name (e ∷ es)) (neither (bytes_eq (sort_key e) e.name) (has_key e.name es) (bytes_differ (sort_key e) e.name (own_key (is_dir e.mode) e.name dir)) (no_key_after e es named before)))
    (λ no_dir. λ i. no_dir i && has_key e.name (e ∷ es))

-- an earlier entry makes no later one a twin
still_no_twins : (e : TreeEntry) (all es : List TreeEntry) → list_all is_entry es ≡ true → list_all (is_before e) es ≡ true → list_any (is_twin all) es ≡ false → list_any (is_twin (e ∷ all)) es ≡ false
still_no_twins e all [] named before twins = refl
still_no_twins e all (f ∷ es) named before twins =
    let names = and_parts (is_entry f) (list_all is_entry es) named in
    let parts = and_parts (is_before e f) (list_all (is_before e) es) before in
    let single = or_neither (is_twin all f) (list_any (is_twin all) es) twins in
    let unlike = bytes_differ (sort_key e) f.name (key_apart (is_dir e.mode) e.name f names.0 (names_differ e f parts.0)) in
    neither (is_twin (e ∷ all) f) (list_any (is_twin (e ∷ all)) es)
    ((λ i. is_dir f.mode && (unlike i || has_key f.name all)) ∙ single.0)
    (still_no_twins e all es names.1 parts.1 single.1)

pub no_twins_from_tree : (es : List TreeEntry) → is_tree es ≡ true → has_twins es ≡ false
no_twins_from_tree [] h = refl
no_twins_from_tree (e ∷ es) h =
    let parts = tree_parts e es h in
    neither (is_twin (e ∷ es) e) (list_any (is_twin (e ∷ es)) es) (first_no_twin e es parts.named parts.before)
    (still_no_twins e es es (named_from_tree es parts.rest) parts.before (no_twins_from_tree es parts.rest))

-- ---- what each test's answer says

pub unnamed_is_none : (es : List TreeEntry) → list_all is_entry es ≡ false → false ≡ is_tree es
unnamed_is_none es h = by_truth (is_tree es) (λ tree. never (list_all is_entry es) (named_from_tree es tree) h) sym

pub unordered_is_none : (es : List TreeEntry) → (IsAscending es → ⊥) → false ≡ is_tree es
unordered_is_none es h = by_truth (is_tree es) (λ tree. absurd (h (ascending_from_tree es tree))) sym

pub tree_by_twins : (es : List TreeEntry) → list_all is_entry es ≡ true → IsAscending es → not (has_twins es) ≡ is_tree es
tree_by_twins es named ascending =
    by_truth (has_twins es)
    (λ twins. ap not twins ∙ by_truth (is_tree es) (λ tree. never (has_twins es) twins (no_twins_from_tree es tree)) sym)
    (λ none. ap not none ∙ sym (tree_from_tests es named ascending none))

pub ascending_answer : (es : List TreeEntry) (r : Bool) → IsAllAdjacentAnswer (λ x y b. b ≡ sorts_below x y) es r → IsTrue r ↔ IsAscending es
ascending_answer es true h = (λ t k d lt. sym (h k d lt), λ up. refl)
ascending_answer [] false h = (λ t. cc t, λ up. absurd (omega (arith, h.1)))
ascending_answer (e ∷ es) false h = (λ t. cc t, λ up. never (sorts_below (get_or (e ∷ es) h.0 e) (get_or (e ∷ es) (h.0 + 1) e)) (up h.0 e h.1) (sym (h.2 e)))

-- ---- one more entry

-- it is after all where it is after the last one
pub below_last : (es : List TreeEntry) (last e d : TreeEntry) → is_tree es ≡ true → last ≡ get_or es (length es - 1) d → sorts_below last e ≡ true → list_all (λ f. sorts_below f e) es ≡ true
below_last [] last e d h is below = refl
below_last (f ∷ []) last e d h is below = both (sorts_below f e) true (ap (λ (z : TreeEntry). sorts_below z e) (sym is) ∙ below) refl
below_last (f ∷ g ∷ es) last e d h is below =
    let parts = tree_parts f (g ∷ es) h in
    let first = (and_parts (sorts_below f g) (not (bytes_eq f.name g.name)) (and_parts (is_before f g) (list_all (is_before f) es) parts.before).0).0 in
    let n : suc (suc (length es)) - 1 ≡ suc (suc (length es) - 1) = omega arith in
    let more = below_last (g ∷ es) last e d parts.rest (is ∙ ap (λ (k : ℕ). get_or (f ∷ g ∷ es) k d) n) below in
    both (sorts_below f e) (list_all (λ f. sorts_below f e) (g ∷ es)) (below_trans f g e first (and_parts (sorts_below g e) (list_all (λ f. sorts_below f e) es) more).0) more

pub before_from_below : (all es : List TreeEntry) (e : TreeEntry) → ((key : List ℕ) → has_key key es ≡ true → has_key key all ≡ true)
    → list_all (λ f. sorts_below f e) es ≡ true → is_twin all e ≡ false → list_all (λ f. is_before f e) es ≡ true
before_from_below all [] e within below twin = refl
before_from_below all (f ∷ es) e within below twin =
    let p = and_parts (sorts_below f e) (list_all (λ f. sorts_below f e) es) below in
    let there = within (sort_key f) (some_first (bytes_eq (sort_key f) (sort_key f)) (has_key (sort_key f) es) (bytes_same (sort_key f) (sort_key f) refl)) in
    both (is_before f e) (list_all (λ f. is_before f e) es)
    (both (sorts_below f e) (not (bytes_eq f.name e.name)) p.0 (not_false (bytes_eq f.name e.name) (pair_apart all f e p.0 twin there)))
    (before_from_below all es e (λ key k. within key (some_later (bytes_eq (sort_key f) key) (has_key key es) k)) p.1 twin)

pub tree_push : (es : List TreeEntry) (e : TreeEntry) → is_tree es ≡ true → is_entry e ≡ true → list_all (λ f. is_before f e) es ≡ true → is_tree (es ++ e ∷ []) ≡ true
tree_push [] e h named before = both (is_entry e && true) true (both (is_entry e) true named refl) refl
tree_push (f ∷ es) e h named before =
    let parts = tree_parts f es h in
    let p = and_parts (is_before f e) (list_all (λ f. is_before f e) es) before in
    let ahead : list_all (is_before f) (es ++ e ∷ []) ≡ true = list_all-append (is_before f) es (e ∷ []) ∙ both (list_all (is_before f) es) (is_before f e && true) parts.before (both (is_before f e) true p.0 refl) in
    both (is_entry f && list_all (is_before f) (es ++ e ∷ [])) (is_tree (es ++ e ∷ []))
    (both (is_entry f) (list_all (is_before f) (es ++ e ∷ [])) parts.named ahead) (tree_push es e parts.rest named p.1)

pub record Pushed (es : List TreeEntry) (e : TreeEntry) : Type 0 where
  pub tree : is_tree es ≡ true
  pub named : is_entry e ≡ true
  pub before : list_all (λ f. is_before f e) es ≡ true

pub tree_pushed : (es : List TreeEntry) (e : TreeEntry) → is_tree (es ++ e ∷ []) ≡ true → Pushed es e
tree_pushed [] e h = record { tree = refl; named = (tree_parts e [] h).named; before = refl }
tree_pushed (f ∷ es) e h =
    let parts = tree_parts f (es ++ e ∷ []) h in
    let more = tree_pushed es e parts.rest in
    let ahead = and_parts (list_all (is_before f) es) (is_before f e && true) (sym (list_all-append (is_before f) es (e ∷ [])) ∙ parts.before) in
    record {
      tree = both (is_entry f && list_all (is_before f) es) (is_tree es) (both (is_entry f) (list_all (is_before f) es) parts.named ahead.0) more.tree;
      named = more.named;
      before = both (is_before f e) (list_all (λ f. is_before f e) es) (and_parts (is_before f e) true ahead.1).0 more.before;
    }

no_key_before : (es : List TreeEntry) (e : TreeEntry) → is_entry e ≡ true → list_all (λ f. is_before f e) es ≡ true → has_key e.name es ≡ false
no_key_before [] e named before = refl
no_key_before (f ∷ es) e named before =
    let p = and_parts (is_before f e) (list_all (λ f. is_before f e) es) before in
    neither (bytes_eq (sort_key f) e.name) (has_key e.name es)
    (bytes_differ (sort_key f) e.name (key_apart (is_dir f.mode) f.name e named (names_differ f e p.0))) (no_key_before es e named p.1)

last_below : (es : List TreeEntry) (last e d : TreeEntry) → 0 < length es → last ≡ get_or es (length es - 1) d → list_all (λ f. is_before f e) es ≡ true → sorts_below last e ≡ true
last_below [] last e d some is h = absurd (omega arith)
last_below (f ∷ []) last e d some is h =
    let p = and_parts (is_before f e) true h in
    ap (λ (z : TreeEntry). sorts_below z e) is ∙ (and_parts (sorts_below f e) (not (bytes_eq f.name e.name)) p.0).0
last_below (f ∷ g ∷ es) last e d some is h =
    let n : suc (suc (length es)) - 1 ≡ suc (suc (length es) - 1) = omega arith in
    last_below (g ∷ es) last e d (omega arith) (is ∙ ap (λ (k : ℕ). get_or (f ∷ g ∷ es) k d) n) (and_parts (is_before f e) (list_all (λ f. is_before f e) (g ∷ es)) h).1

-- the test of one more entry
pub push_unnamed : (es : List TreeEntry) (e : TreeEntry) → is_entry e ≡ false → false ≡ is_tree (es ++ e ∷ [])
push_unnamed es e h = by_truth (is_tree (es ++ e ∷ [])) (λ t. never (is_entry e) (tree_pushed es e t).named h) sym

pub push_test : (es : List TreeEntry) (last e d : TreeEntry) → is_tree es ≡ true → is_entry e ≡ true → 0 < length es → last ≡ get_or es (length es - 1) d → (sorts_below last e && not (is_twin es e)) ≡ is_tree (es ++ e ∷ [])
push_test es last e d tree named some is =
    by_truth (sorts_below last e)
    (λ below. by_truth (is_twin es e)
    (λ twin. by_truth (is_tree (es ++ e ∷ []))
    (λ t. never (has_key e.name es) (and_parts (is_dir e.mode) (has_key e.name es) twin).1 (no_key_before es e named (tree_pushed es e t).before))
    (λ f. (λ i. below i && not (twin i)) ∙ sym f))
    (λ single. (λ i. below i && not (single i)) ∙ sym (tree_push es e tree named (before_from_below es es e (λ key k. k) (below_last es last e d tree is below) single))))
    (λ above. by_truth (is_tree (es ++ e ∷ []))
    (λ t. never (sorts_below last e) (last_below es last e d some is (tree_pushed es e t).before) above)
    (λ f. (λ i. above i && not (is_twin es e)) ∙ sym f))

pub push_above : (es : List TreeEntry) (last e d : TreeEntry) → is_tree es ≡ true → is_entry e ≡ true → 0 < length es → last ≡ get_or es (length es - 1) d → sorts_below last e ≡ false → false ≡ is_tree (es ++ e ∷ [])
push_above es last e d tree named some is above = sym (ap (λ b. b && not (is_twin es e)) above) ∙ push_test es last e d tree named some is

pub push_alone : (es : List TreeEntry) (last e d : TreeEntry) → is_tree es ≡ true → is_entry e ≡ true → 0 < length es → last ≡ get_or es (length es - 1) d → sorts_below last e ≡ true → not (is_twin es e) ≡ is_tree (es ++ e ∷ [])
push_alone es last e d tree named some is below = sym (ap (λ b. b && not (is_twin es e)) below) ∙ push_test es last e d tree named some is
