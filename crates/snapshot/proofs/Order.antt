-- The order of paths, of names and of entries.
use Rattle.std.proofs.Common.{◌≡◌, ℕ, ◌<◌, ◌≤◌, Bool, true, false, not, inl, inr, ⊎_elim, List, [], ◌∷◌, ◌++◌, refl, sym, ap, subst, ◌∙◌, arith, append_assoc, append-nil}
use Rattle.std.specs.Prelude.{◌⊎◌, ◌==◌, bytes_eq}
use Rattle.std.specs.declared.cmp.Ordering.TheVariants.{Less, Equal, Greater}
use Rattle.std.specs.Cmp.{nat_cmp_is}
use Rattle.std.specs.Cmp.Lexicographic.{slice_cmp}
use Rattle.std.specs.List.{list_any, list_all}
use Rattle.std.specs.Ordering.{nat_cmp, is_lt, ordering_then}
use Rattle.std.proofs.lemmas.Bool.{and_parts, false≢true, cases_lt}
use Rattle.places.specs.All.{slash}
use Rattle.places.proofs.Texts.{or_neither}
use Rattle.git_objects.specs.All.{name_end, sort_key, sorts_below, is_before}
use Rattle.git_objects.specs.declared.entries.TreeEntry.{TreeEntry}
use Rattle.snapshot.specs.Leaves.{leaf_entry, dir_entry}
use Rattle.snapshot.specs.Dirs.{Dir, Empty, Item, Sub, entries_of, root_id, inside, listed}
use Rattle.snapshot.specs.Builds.{IsSingle}
use Rattle.snapshot.specs.Order.{Below, Each}
use Rattle.snapshot.specs.declared.entries.Leaf.{Leaf}
use Rattle.snapshot.specs.declared.entries.Leaf.TheVariants.{Git, Link, Pin}
use Rattle.snapshot.proofs.Once.{Under, Each-append, Each-weaker, all_under}

-- ---- the two ways to say it
lt_cases : (a b : ℕ) → (a < b) ⊎ ((a ≡ b) ⊎ (b < a))
lt_cases a b = by (cases_lt a b)
  where
    at_or : a ≡ b → (a < b) ⊎ ((a ≡ b) ⊎ (b < a))
    at_or e = inr (inl e)

    over : (b < a) → (a < b) ⊎ ((a ≡ b) ⊎ (b < a))
    over h = inr (inr h)

    later : b ≤ a → ((b < a) ⊎ (a ≤ b)) → (a < b) ⊎ ((a ≡ b) ⊎ (b < a))
    later le (inl h) = over h
    later le (inr h) = at_or (omega arith)

    by : ((a < b) ⊎ (b ≤ a)) → (a < b) ⊎ ((a ≡ b) ⊎ (b < a))
    by (inl h) = inl h
    by (inr h) = later h (cases_lt b a)

pub from_cmp : (x y : List ℕ) → is_lt (slice_cmp nat_cmp x y) ≡ true → Below x y
from_cmp [] [] h = cc h
from_cmp [] (b ∷ y) h = tt
from_cmp (a ∷ x) [] h = cc h
from_cmp (a ∷ x) (b ∷ y) h =
    ⊎_elim (λ lt. inl lt)
    (λ rest. ⊎_elim (λ e. inr (e, from_cmp x y (ap (λ o. is_lt (ordering_then o (slice_cmp nat_cmp x y))) (nat_cmp_is a b Equal e) ∙ h)))
    (λ gt. absurd (false≢true (ap (λ o. is_lt (ordering_then o (slice_cmp nat_cmp x y))) (nat_cmp_is a b Greater gt) ∙ h))) rest)
    (lt_cases a b)

pub to_cmp : (x y : List ℕ) → Below x y → is_lt (slice_cmp nat_cmp x y) ≡ true
to_cmp [] [] h = absurd h
to_cmp [] (b ∷ y) h = refl
to_cmp (a ∷ x) [] h = absurd h
to_cmp (a ∷ x) (b ∷ y) (inl lt) = ap (λ o. is_lt (ordering_then o (slice_cmp nat_cmp x y))) (sym (nat_cmp_is a b Less lt))
to_cmp (a ∷ x) (b ∷ y) (inr (e, more)) = ap (λ o. is_lt (ordering_then o (slice_cmp nat_cmp x y))) (sym (nat_cmp_is a b Equal e)) ∙ to_cmp x y more

-- ---- what is below what
pub not_below_itself : (x : List ℕ) → Below x x → ⊥
not_below_itself [] h = h
not_below_itself (a ∷ x) (inl lt) = omega arith
not_below_itself (a ∷ x) (inr (e, more)) = not_below_itself x more

pub below_longer : (x y r : List ℕ) → Below x y → Below x (y ++ r)
below_longer [] [] r h = absurd h
below_longer [] (b ∷ y) r h = tt
below_longer (a ∷ x) [] r h = absurd h
below_longer (a ∷ x) (b ∷ y) r (inl lt) = inl lt
below_longer (a ∷ x) (b ∷ y) r (inr (e, more)) = inr (e, below_longer x y r more)

pub shorter_below : (x r y : List ℕ) → Below (x ++ r) y → Below x y
shorter_below [] [] [] h = absurd h
shorter_below [] (b ∷ r) [] h = absurd h
shorter_below [] r (c ∷ y) h = tt
shorter_below (a ∷ x) r [] h = absurd h
shorter_below (a ∷ x) r (b ∷ y) (inl lt) = inl lt
shorter_below (a ∷ x) r (b ∷ y) (inr (e, more)) = inr (e, shorter_below x r y more)

pub below_behind : (p x y : List ℕ) → Below x y → Below (p ++ x) (p ++ y)
below_behind [] x y h = h
below_behind (a ∷ p) x y h = inr (refl, below_behind p x y h)

pub behind_below : (p x y : List ℕ) → Below (p ++ x) (p ++ y) → Below x y
behind_below [] x y h = h
behind_below (a ∷ p) x y (inl lt) = absurd (omega arith)
behind_below (a ∷ p) x y (inr (e, more)) = behind_below p x y more

no_slash : (a : ℕ) (x : List ℕ) → IsSingle (a ∷ x) → a ≡ slash → ⊥
no_slash a x single e = false≢true (sym (or_neither (a == slash) (list_any (λ b. b == slash) x) single).0 ∙ ap (λ (z : ℕ). z == slash) e)

tail_single : (a : ℕ) (x : List ℕ) → IsSingle (a ∷ x) → IsSingle x
tail_single a x single = (or_neither (a == slash) (list_any (λ b. b == slash) x) single).1

-- what lies in a directory is below what is sorted after it
pub keys_extend : (n m r q : List ℕ) (d : Bool) → IsSingle n → IsSingle m → Below (n ++ slash ∷ []) (m ++ name_end d) → Below ((n ++ slash ∷ []) ++ r) ((m ++ name_end d) ++ q)
keys_extend [] [] r q true one two (inl lt) = absurd (omega arith)
keys_extend [] [] r q true one two (inr (e, more)) = absurd more
keys_extend [] [] r q false one two h = absurd h
keys_extend [] (b ∷ m) r q d one two (inl lt) = inl lt
keys_extend [] (b ∷ m) r q d one two (inr (e, more)) = absurd (no_slash b m two (sym e))
keys_extend (a ∷ n) [] r q true one two (inl lt) = inl lt
keys_extend (a ∷ n) [] r q true one two (inr (e, more)) = absurd (no_slash a n one e)
keys_extend (a ∷ n) [] r q false one two h = absurd h
keys_extend (a ∷ n) (b ∷ m) r q d one two (inl lt) = inl lt
keys_extend (a ∷ n) (b ∷ m) r q d one two (inr (e, more)) = inr (e, keys_extend n m r q d (tail_single a n one) (tail_single b m two) more)

-- a name below a path in a directory is below the directory's own key
pub name_below_dir : (n m r : List ℕ) → IsSingle n → Below n (m ++ slash ∷ r) → Below n (m ++ slash ∷ [])
name_below_dir [] [] r single h = tt
name_below_dir [] (b ∷ m) r single h = tt
name_below_dir (a ∷ n) [] r single (inl lt) = inl lt
name_below_dir (a ∷ n) [] r single (inr (e, more)) = absurd (no_slash a n single e)
name_below_dir (a ∷ n) (b ∷ m) r single (inl lt) = inl lt
name_below_dir (a ∷ n) (b ∷ m) r single (inr (e, more)) = inr (e, name_below_dir n m r (tail_single a n single) more)

-- of two directories, the keys are in order where paths in them are
pub dirs_below : (n m r q : List ℕ) → IsSingle n → IsSingle m → (n ≡ m → ⊥) → Below (n ++ slash ∷ r) (m ++ slash ∷ q) → Below (n ++ slash ∷ []) (m ++ slash ∷ [])
dirs_below [] [] r q one two differ h = absurd (differ refl)
dirs_below [] (b ∷ m) r q one two differ (inl lt) = inl lt
dirs_below [] (b ∷ m) r q one two differ (inr (e, more)) = absurd (no_slash b m two (sym e))
dirs_below (a ∷ n) [] r q one two differ (inl lt) = inl lt
dirs_below (a ∷ n) [] r q one two differ (inr (e, more)) = absurd (no_slash a n one e)
dirs_below (a ∷ n) (b ∷ m) r q one two differ (inl lt) = inl lt
dirs_below (a ∷ n) (b ∷ m) r q one two differ (inr (e, more)) =
    inr (e, dirs_below n m r q (tail_single a n one) (tail_single b m two) (λ same. differ (λ i. e i ∷ same i)) more)

-- between two paths that begin so, each begins so
pub between : (front x y q : List ℕ) → Below (front ++ x) q → Below q (front ++ y) → (rest : List ℕ) × (q ≡ front ++ rest)
between [] x y q h k = (q, refl)
between (a ∷ front) x y [] h k = absurd h
between (a ∷ front) x y (c ∷ q) (inl lt) (inl gt) = absurd (omega arith)
between (a ∷ front) x y (c ∷ q) (inl lt) (inr (e, more)) = absurd (omega arith)
between (a ∷ front) x y (c ∷ q) (inr (e, more)) (inl gt) = absurd (omega arith)
between (a ∷ front) x y (c ∷ q) (inr (e, more)) (inr (e', less)) =
    let found = between front x y q more less in
    (found.0, ap (λ (z : ℕ). z ∷ q) (sym e) ∙ ap (λ (z : List ℕ). a ∷ z) found.1)

-- ---- a valid directory's paths are sorted
pub leaf_key : (n : List ℕ) (l : Leaf) → sort_key (leaf_entry n l) ≡ n
leaf_key n (Git i true) = append-nil n
leaf_key n (Git i false) = append-nil n
leaf_key n (Link i) = append-nil n
leaf_key n (Pin i) = append-nil n

pub before_below : (e f : TreeEntry) → is_before e f ≡ true → Below (sort_key e) (sort_key f)
before_below e f h = from_cmp (sort_key e) (sort_key f) (and_parts (sorts_below e f) (not (bytes_eq e.name f.name)) h).0

-- the directory has this entry
abbrev pub Holds : TreeEntry → Dir → Type 0
Holds e Empty = ⊥
Holds e (Item n l m) = (leaf_entry n l ≡ e) ⊎ Holds e m
Holds e (Sub n s m) = (dir_entry n (record { 0 = root_id s }) ≡ e) ⊎ Holds e m

pub all_hold : (p : TreeEntry → Bool) (e : TreeEntry) (dir : Dir) → list_all p (entries_of dir) ≡ true → Holds e dir → p e ≡ true
all_hold p e Empty h k = absurd k
all_hold p e (Item n l m) h (inl same) = ap p (sym same) ∙ (and_parts (p (leaf_entry n l)) (list_all p (entries_of m)) h).0
all_hold p e (Item n l m) h (inr k) = all_hold p e m (and_parts (p (leaf_entry n l)) (list_all p (entries_of m)) h).1 k
all_hold p e (Sub n s m) h (inl same) = ap p (sym same) ∙ (and_parts (p (dir_entry n (record { 0 = root_id s }))) (list_all p (entries_of m)) h).0
all_hold p e (Sub n s m) h (inr k) = all_hold p e m (and_parts (p (dir_entry n (record { 0 = root_id s }))) (list_all p (entries_of m)) h).1 k

-- everything in the rest of a directory is above a text that its keys are above, even with more behind them
pub rest_above : (path low : List ℕ) (dir : Dir) → ((n : List ℕ) (l : Leaf) → Holds (leaf_entry n l) dir → Below low n) → ((n q : List ℕ) (s : Dir) → Holds (dir_entry n (record { 0 = root_id s })) dir → Below low ((n ++ slash ∷ []) ++ q))
    → Each (λ f. Below (path ++ low) f.path) (listed path dir)
rest_above path low Empty leaf sub = tt
rest_above path low (Item n l m) leaf sub = (below_behind path low n (leaf n l (inl refl)), rest_above path low m (λ n l h. leaf n l (inr h)) (λ n q s h. sub n q s (inr h)))
rest_above path low (Sub n s m) leaf sub =
    Each-append (λ f. Below (path ++ low) f.path) (listed (inside path n) s) (listed path m)
    (Each-weaker (Under (inside path n)) (λ f. Below (path ++ low) f.path)
    (λ f (r, e). subst (λ (z : List ℕ). Below (path ++ low) z) (sym (e ∙ ap (λ (z : List ℕ). z ++ r) (append_assoc path n (slash ∷ [])) ∙ append_assoc path (n ++ slash ∷ []) r)) (below_behind path low ((n ++ slash ∷ []) ++ r) (sub n r s (inl refl))))
    (listed (inside path n) s) (all_under (inside path n) s))
    (rest_above path low m (λ n l h. leaf n l (inr h)) (λ n q s h. sub n q s (inr h)))
