-- Nothing is added or deleted exactly where the new snapshot is the old one.
use Rattle.std.proofs.Common.{◌≡◌, ℕ, Bool, true, false, cond, not, ◌||◌, inl, inr, List, [], ◌∷◌, Some, refl, sym, ap, subst, ◌∙◌, arith}
use Rattle.std.specs.Prelude.{bytes_eq}
use Rattle.std.specs.List.{AllByRecursion, filter}
use Rattle.std.specs.List.Sorted.{IsStrictlySortedBy}
use Rattle.std.specs.Ordering.{nat_cmp, is_eq, is_lt}
use Rattle.std.specs.Cmp.Lexicographic.{slice_cmp}
use Rattle.std.specs.declared.cmp.Ordering.TheVariants.{Less}
use Rattle.std.proofs.lemmas.Bool.{false≢true, false_from_ne_true}
use Rattle.std.proofs.lemmas.Map.Text.{is_eq-slice_cmp}
use Rattle.std.proofs.lemmas.Slice.Eq.{bytes_eq-Decides}
use Rattle.places.proofs.Texts.{or_neither}
use Rattle.git_objects.specs.declared.ids.Id.{Id}
use Rattle.snapshot.specs.All.{Below, Each, Has, IsSorted}
use Rattle.snapshot.specs.declared.entries.Entry.{Entry}
use Rattle.snapshot.specs.declared.entries.Leaf.{Leaf}
use Rattle.snapshot.specs.declared.entries.Leaf.TheVariants.{Git, Link, Pin}
use Rattle.snapshot.proofs.Order.{from_cmp}
use Rattle.tree_status.specs.Changes.{NoOtherIsSame, added, deleted, is_among, is_blob, is_nothing}
use Rattle.tree_status.specs.Changes.{is_other, new_entries, new_entry, paths_of, was_exec}
use Rattle.tree_status.specs.Keeping.{leaf_at}
use Rattle.tree_status.specs.declared.found.WorkingFile.{WorkingFile}
use Rattle.tree_status.proofs.KeptBefore.{below_other, leaf_of_has}

-- ---- what the parts say
abbrev AreBlobs : List Entry → List WorkingFile → Type 0
AreBlobs old files = AllByRecursion (λ file. is_blob file.id.0 (leaf_at file.path old) ≡ true) files

abbrev AreThere : List WorkingFile → List Entry → Type 0
AreThere files list = AllByRecursion (λ entry. is_among (paths_of files) entry.path ≡ true) list

-- all of some paths come after this one
abbrev AreAfter : List ℕ → List WorkingFile → Type 0
AreAfter path files = AllByRecursion (λ next. slice_cmp nat_cmp path next ≡ Less) (paths_of files)

is_nothing_of : {A : Type 0} (xs : List A) → not (is_nothing xs) ≡ false → xs ≡ []
is_nothing_of [] e = refl
is_nothing_of (x ∷ xs) e = absurd (false≢true (sym e))

not_fails : (b : Bool) → not b ≡ false → b ≡ true
not_fails true e = refl
not_fails false e = sym e

none_left : {A : Type 0} (p : A → Bool) (xs : List A) → filter (λ x. not (p x)) xs ≡ [] → AllByRecursion (λ x. p x ≡ true) xs
none_left p [] e = tt
none_left {A = A} p (x ∷ xs) e = by (λ rest. none_left p xs rest) (p x) refl e
  where
    by : (filter (λ y. not (p y)) xs ≡ [] → AllByRecursion (λ y. p y ≡ true) xs) → (b : Bool) → p x ≡ b → cond (not b) (x ∷ filter (λ y. not (p y)) xs) (filter (λ y. not (p y)) xs) ≡ [] → (p x ≡ true) × AllByRecursion (λ y. p y ≡ true) xs
    by later true is rest = (is, later rest)
    by later false is rest = absurd (cc rest)

all_left : {A : Type 0} (p : A → Bool) (xs : List A) → AllByRecursion (λ x. p x ≡ true) xs → filter (λ x. not (p x)) xs ≡ []
all_left p [] all = refl
all_left p (x ∷ xs) all = ap (λ b. cond (not b) (x ∷ filter (λ y. not (p y)) xs) (filter (λ y. not (p y)) xs)) all.0 ∙ all_left p xs all.1

-- ---- the order of paths
not_both : (x y : List ℕ) → Below x y → Below y x → ⊥
not_both [] [] h k = h
not_both [] (b ∷ y) h k = k
not_both (a ∷ x) [] h k = h
not_both (a ∷ x) (b ∷ y) (inl h) (inl k) = omega arith
not_both (a ∷ x) (b ∷ y) (inl h) (inr k) = let e = k.0 in omega arith
not_both (a ∷ x) (b ∷ y) (inr h) (inl k) = let e = h.0 in omega arith
not_both (a ∷ x) (b ∷ y) (inr h) (inr k) = not_both x y h.1 k.1

other_path : (x y : List ℕ) → slice_cmp nat_cmp x y ≡ Less → bytes_eq x y ≡ false
other_path x y less = sym (is_eq-slice_cmp x y) ∙ ap is_eq less

other_below : (x y : List ℕ) → Below x y → bytes_eq x y ≡ false
other_below x y below = false_from_ne_true _ (λ t. below_other x y below ((bytes_eq-Decides x y).0 t))

-- a blob's leaf at a path is that of an entry with this path
found_below : (x : List ℕ) (xs : List Entry) (id path : List ℕ) → Each (λ f. Below x f.path) xs → is_blob id (leaf_at path xs) ≡ true → Below x path
found_below x [] id path below is = absurd (false≢true is)
found_below x (e ∷ es) id path below is = by (λ rest. found_below x es id path below.1 rest) (bytes_eq e.path path) refl
  where
    by : (is_blob id (leaf_at path es) ≡ true → Below x path) → (b : Bool) → bytes_eq e.path path ≡ b → Below x path
    by later true t = subst (λ (p : List ℕ). Below x p) ((bytes_eq-Decides e.path path).0 t) below.0
    by later false f = later (ap (λ b. is_blob id (cond b (Some e.leaf) (leaf_at path es))) (sym f) ∙ is)

there_below : (x : List ℕ) (files : List WorkingFile) (path : List ℕ) → AreAfter x files → is_among (paths_of files) path ≡ true → Below x path
there_below x [] path after is = absurd (false≢true is)
there_below x (file ∷ files) path after is = by (λ rest. there_below x files path after.1 rest) (bytes_eq file.path path) refl
  where
    by : (is_among (paths_of files) path ≡ true → Below x path) → (b : Bool) → bytes_eq file.path path ≡ b → Below x path
    by later true t = subst (λ (p : List ℕ). Below x p) ((bytes_eq-Decides file.path path).0 t) (from_cmp x file.path (ap is_lt after.0))
    by later false f = later (ap (λ b. b || is_among (paths_of files) path) (sym f) ∙ is)

-- ---- what comes after the first entry and the first file
blobs_later : (x : Entry) (xs : List Entry) (files : List WorkingFile) → AreAfter x.path files → AreBlobs (x ∷ xs) files → AreBlobs xs files
blobs_later x xs [] after blobs = tt
blobs_later x xs (file ∷ files) after blobs =
    (ap (λ b. is_blob file.id.0 (cond b (Some x.leaf) (leaf_at file.path xs))) (sym (other_path x.path file.path after.0)) ∙ blobs.0, blobs_later x xs files after.1 blobs.1)

entries_later : (x : Entry) (xs : List Entry) (files : List WorkingFile) → AreAfter x.path files → new_entries (x ∷ xs) files ≡ new_entries xs files
entries_later x xs [] after = refl
entries_later x xs (file ∷ files) after = λ i.
    record { path = file.path; leaf = Git file.id (was_exec (cond (other_path x.path file.path after.0 i) (Some x.leaf) (leaf_at file.path xs))) }
    ∷ entries_later x xs files after.1 i

there_later : (file : WorkingFile) (files : List WorkingFile) (list : List Entry) → Each (λ f. Below file.path f.path) list → AreThere (file ∷ files) list → AreThere files list
there_later file files [] below there = tt
there_later file files (e ∷ es) below there =
    (ap (λ b. b || is_among (paths_of files) e.path) (sym (other_below file.path e.path below.0)) ∙ there.0, there_later file files es below.1 there.1)

blob_leaf : (id : Id) (leaf : Leaf) → is_blob id.0 (Some leaf) ≡ true → Git id (was_exec (Some leaf)) ≡ leaf
blob_leaf id (Git blob exec) is = λ i. Git (record { 0 = sym ((bytes_eq-Decides blob.0 id.0).0 is) i }) exec
blob_leaf id (Link target) is = absurd (false≢true is)
blob_leaf id (Pin commit) is = absurd (false≢true is)

merged : (xs : List Entry) (files : List WorkingFile) → IsSorted xs → IsStrictlySortedBy (slice_cmp nat_cmp) (paths_of files) → AreBlobs xs files → AreThere files xs → new_entries xs files ≡ xs
unfolding IsStrictlySortedBy
merged [] [] sorted ascending blobs there = refl
merged [] (file ∷ files) sorted ascending blobs there = absurd (false≢true blobs.0)
merged (x ∷ xs) [] sorted ascending blobs there = absurd (false≢true there.0)
merged (x ∷ xs) (file ∷ files) sorted ascending blobs there = by (λ s a b t. merged xs files s a b t) (bytes_eq x.path file.path) refl
  where
    by : (IsSorted xs → IsStrictlySortedBy (slice_cmp nat_cmp) (paths_of files) → AreBlobs xs files → AreThere files xs → new_entries xs files ≡ xs)
        → (b : Bool) → bytes_eq x.path file.path ≡ b → new_entries (x ∷ xs) (file ∷ files) ≡ x ∷ xs
    by rest true t =
        let same : x.path ≡ file.path = (bytes_eq-Decides x.path file.path).0 t in
        let after : AreAfter x.path files = subst (λ (p : List ℕ). AreAfter p files) (sym same) ascending.0 in
        let below : Each (λ f. Below file.path f.path) xs = subst (λ (p : List ℕ). Each (λ f. Below p f.path) xs) same sorted.0 in
        let leaf = ap (λ b. cond b (Some x.leaf) (leaf_at file.path xs)) t in
        let first : new_entry (x ∷ xs) file ≡ x = λ i. record { path = sym same i; leaf = (ap (λ o. Git file.id (was_exec o)) leaf ∙ blob_leaf file.id x.leaf (ap (is_blob file.id.0) (sym leaf) ∙ blobs.0)) i } in
        let more : new_entries (x ∷ xs) files ≡ xs = entries_later x xs files after ∙ rest sorted.1 ascending.1 (blobs_later x xs files after blobs.1) (there_later file files xs below there.1) in
        λ i. first i ∷ more i
    by rest false f =
        let above : Below x.path file.path = found_below x.path xs file.id.0 file.path sorted.0 (ap (λ b. is_blob file.id.0 (cond b (Some x.leaf) (leaf_at file.path xs))) (sym f) ∙ blobs.0) in
        let turned : bytes_eq file.path x.path ≡ false = false_from_ne_true _ (λ t. below_other x.path file.path above (sym ((bytes_eq-Decides file.path x.path).0 t))) in
        absurd (not_both x.path file.path above (there_below file.path files x.path ascending.0 (ap (λ b. b || is_among (paths_of files) x.path) (sym turned) ∙ there.0)))

-- where nothing is added or deleted, the new snapshot is the old one
unchanged_same : (old : List Entry) (files : List WorkingFile) → IsSorted old → IsStrictlySortedBy (slice_cmp nat_cmp) (paths_of files) → is_other old files ≡ false → new_entries old files ≡ old
unchanged_same old files sorted ascending unchanged =
    let none = or_neither (not (is_nothing (added old files))) (not (is_nothing (deleted old files))) unchanged in
    merged old files sorted ascending
    (none_left (λ (file : WorkingFile). is_blob file.id.0 (leaf_at file.path old)) files (is_nothing_of (added old files) none.0))
    (none_left (λ (entry : Entry). is_among (paths_of files) entry.path) old (is_nothing_of (deleted old files) none.1))

-- ---- and back
blobs_of : (old : List Entry) (files : List WorkingFile) → IsSorted old → ((e : Entry) → Has (new_entries old files) e → Has old e) → AreBlobs old files
blobs_of old [] sorted has = tt
blobs_of old (file ∷ files) sorted has =
    let leaf = leaf_of_has old file.path (Git file.id (was_exec (leaf_at file.path old))) sorted (has (new_entry old file) (inl refl)) in
    (ap (is_blob file.id.0) leaf ∙ (bytes_eq-Decides file.id.0 file.id.0).1 refl, blobs_of old files sorted (λ e h. has e (inr h)))

there_of : (old : List Entry) (part files : List WorkingFile) → ((path : List ℕ) → is_among (paths_of part) path ≡ true → is_among (paths_of files) path ≡ true) → AreThere files (new_entries old part)
there_of old [] files weaker = tt
there_of old (file ∷ part) files weaker =
    (weaker file.path (ap (λ b. b || is_among (paths_of part) file.path) ((bytes_eq-Decides file.path file.path).1 refl)), there_of old part files (λ path is. weaker path (ap (λ b. bytes_eq file.path path || b) is ∙ or_true (bytes_eq file.path path))))
  where
    or_true : (b : Bool) → (b || true) ≡ true
    or_true true = refl
    or_true false = refl

-- where the new snapshot is the old one, nothing is added or deleted
same_unchanged : (old : List Entry) (files : List WorkingFile) → IsSorted old → new_entries old files ≡ old → is_other old files ≡ false
same_unchanged old files sorted same =
    let new : added old files ≡ [] = all_left (λ (file : WorkingFile). is_blob file.id.0 (leaf_at file.path old)) files (blobs_of old files sorted (λ e h. subst (λ (list : List Entry). Has list e) same h)) in
    let gone : deleted old files ≡ [] = all_left (λ (entry : Entry). is_among (paths_of files) entry.path) old (subst (λ (list : List Entry). AreThere files list) same (there_of old files files (λ path is. is))) in
    λ i. not (is_nothing (new i)) || not (is_nothing (gone i))

pub other_unless_same : NoOtherIsSame
other_unless_same old files sorted ascending = (unchanged_same old files sorted ascending, same_unchanged old files sorted)
