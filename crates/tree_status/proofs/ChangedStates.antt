-- The changes: their states are kept by their paths, and put in the order of these.
use Rattle.std.proofs.Common.{◌≡◌, ℕ, Bool, true, false, cond, ◌||◌, ◌&&◌, List, [], ◌∷◌, ◌++◌, map, Option, Some, None, Result, Ok, Err, Vec, refl, sym, ap, subst, ◌∙◌, append-nil}
use Rattle.std.specs.Prelude.{T, bytes_eq, IfOk}
use Rattle.std.specs.Borrow.{Bor}
use Rattle.std.specs.BTreeMap.{BTreeMap, IsOrdered, is_at}
use Rattle.std.specs.FinMap.{FinMap, entries, from_entries, from_sorted, find, is_sorted, same_map}
use Rattle.std.specs.FinMap.{get-from_entries, get-from_sorted, entries-from_sorted}
use Rattle.std.specs.FinMap.{slice_cmp-IsAntisymmetric, nat_cmp-IsAntisymmetric}
use Rattle.std.specs.FinMap.Entries.{below_all}
use Rattle.std.specs.List.{AllByRecursion}
use Rattle.std.specs.List.Sorted.{IsStrictlySortedBy}
use Rattle.std.specs.Map.{lookup, keys_of}
use Rattle.std.specs.Ordering.{nat_cmp, is_lt, is_eq}
use Rattle.std.specs.Cmp.Lexicographic.{slice_cmp}
use Rattle.std.specs.declared.cmp.Ordering.{Ordering}
use Rattle.std.specs.declared.cmp.Ordering.TheVariants.{Less}
use Rattle.std.specs.declared.alloc.Global.{Global}
use Rattle.std.proofs.lemmas.Cmp.{nat_list_cmp_total}
use Rattle.std.proofs.lemmas.List.Folds.{list_any-append}
use Rattle.std.proofs.lemmas.Map.Text.{is_eq-slice_cmp}
use Rattle.std.proofs.lemmas.Slice.Eq.{bytes_eq-Decides}
use Rattle.places.proofs.Standing.{same_truth}
use Rattle.snapshot.specs.declared.entries.Entry.{Entry}
use Rattle.tree_status.specs.Changed.{kept_changes, state_at, with_states}
use Rattle.tree_status.specs.Changes.{AreOrdered, added, added_state, change_at, changes, deleted}
use Rattle.tree_status.specs.Changes.{is_among, lacking, paths_of, states_by_path}
use Rattle.tree_status.specs.declared.found.WorkingFile.{WorkingFile}
use Rattle.tree_status.specs.declared.states.Change.{Change}
use Rattle.tree_status.specs.declared.states.State.{State}
use Rattle.tree_status.specs.declared.states.State.TheVariants.{Deleted, Modified}

turned : (x y : List ℕ) → bytes_eq x y ≡ bytes_eq y x
turned x y = same_truth _ _ (λ h. (bytes_eq-Decides y x).1 (sym ((bytes_eq-Decides x y).0 h))) (λ h. (bytes_eq-Decides x y).1 (sym ((bytes_eq-Decides y x).0 h)))

-- ---- one more state
or_true : (b : Bool) → (b || true) ≡ true
or_true true = refl
or_true false = refl

or_false : (b : Bool) → (b || false) ≡ b
or_false true = refl
or_false false = refl

among_more : (paths : List (List ℕ)) (path at : List ℕ) → is_among (paths ++ path ∷ []) at ≡ (is_among paths at || bytes_eq path at)
among_more paths path at = list_any-append (λ one. bytes_eq one at) paths (path ∷ []) ∙ ap (λ b. is_among paths at || b) (or_false (bytes_eq path at))

pub states_more : (state_of : List ℕ → State) (paths : List (List ℕ)) (path at : List ℕ) (before mid new : Option State) → new ≡ cond (bytes_eq path at) (Some (state_of path)) mid → mid ≡ with_states state_of paths at before → new ≡ with_states state_of (paths ++ path ∷ []) at before
states_more state_of paths path at before mid new is so_far = is ∙ by (bytes_eq path at) refl
  where
    by : (b : Bool) → bytes_eq path at ≡ b → cond (bytes_eq path at) (Some (state_of path)) mid ≡ with_states state_of (paths ++ path ∷ []) at before
    by true e =
        ap (λ b. cond b (Some (state_of path)) mid) e
        ∙ ap (λ (p : List ℕ). Some (state_of p)) ((bytes_eq-Decides path at).0 e)
        ∙ sym (ap (λ b. cond b (Some (state_of at)) before) (among_more paths path at ∙ ap (λ b. is_among paths at || b) e ∙ or_true (is_among paths at)))
    by false e =
        ap (λ b. cond b (Some (state_of path)) mid) e ∙ so_far
        ∙ sym (ap (λ b. cond b (Some (state_of at)) before) (among_more paths path at ∙ ap (λ b. is_among paths at || b) e ∙ or_false (is_among paths at)))

pub set_more : (paths : List (List ℕ)) (path at : List ℕ) (old new : Bool) → new ≡ cond (is_eq (slice_cmp nat_cmp path at)) true old → old ≡ is_among paths at → new ≡ is_among (paths ++ path ∷ []) at
set_more paths path at old new is so_far = is ∙ (λ i. cond (is_eq-slice_cmp path at i) true (so_far i)) ∙ either (bytes_eq path at) (is_among paths at) ∙ sym (among_more paths path at)
  where
    either : (a b : Bool) → cond a true b ≡ (b || a)
    either true b = sym (or_true b)
    either false b = sym (or_false b)

-- ---- the states of the statement, by their paths
abbrev order : List ℕ → List ℕ → Ordering
order = slice_cmp nat_cmp

find_states : {A : Type 0} (state_of : List ℕ → State) (path_of : A → List ℕ) (xs : List A) (rest : List (List ℕ × State)) (at : List ℕ)
    → find order at (map (λ x. (path_of x, state_of (path_of x))) xs ++ rest) ≡ with_states state_of (map path_of xs) at (find order at rest)
find_states state_of path_of [] rest at = refl
find_states state_of path_of (x ∷ xs) rest at = by (bytes_eq (path_of x) at) refl (find_states state_of path_of xs rest at)
  where
    later : Option State
    later = find order at (map (λ y. (path_of y, state_of (path_of y))) xs ++ rest)

    first : (b : Bool) → bytes_eq (path_of x) at ≡ b → cond (is_eq (order at (path_of x))) (Some (state_of (path_of x))) later ≡ cond b (Some (state_of (path_of x))) later
    first b e = ap (λ c. cond c (Some (state_of (path_of x))) later) (is_eq-slice_cmp at (path_of x) ∙ turned at (path_of x) ∙ e)

    by : (b : Bool) → bytes_eq (path_of x) at ≡ b → later ≡ with_states state_of (map path_of xs) at (find order at rest)
        → cond (is_eq (order at (path_of x))) (Some (state_of (path_of x))) later ≡ cond (bytes_eq (path_of x) at || is_among (map path_of xs) at) (Some (state_of at)) (find order at rest)
    by true e so_far =
        first true e ∙ ap (λ (p : List ℕ). Some (state_of p)) ((bytes_eq-Decides (path_of x) at).0 e)
        ∙ sym (ap (λ b. cond (b || is_among (map path_of xs) at) (Some (state_of at)) (find order at rest)) e)
    by false e so_far =
        first false e ∙ so_far
        ∙ sym (ap (λ b. cond (b || is_among (map path_of xs) at) (Some (state_of at)) (find order at rest)) e)

-- the state at a path, of the files that are added, of those whose contents are lacked, and of the entries that are
-- deleted
abbrev pub gone_by : List Entry → List WorkingFile → List ℕ → Option State
gone_by old files at = with_states (λ path. Deleted) (map (λ entry. entry.path) (deleted old files)) at None

abbrev pub lacking_by : List Entry → List WorkingFile → List ℕ → Option State
lacking_by old files at = with_states (λ path. Modified) (paths_of (lacking files)) at (gone_by old files at)

abbrev pub state_by : List Entry → List WorkingFile → List ℕ → Option State
state_by old files at = with_states (added_state old) (paths_of (added old files)) at (lacking_by old files at)

find_all : (old : List Entry) (files : List WorkingFile) (at : List ℕ) → find order at (states_by_path old files) ≡ state_by old files at
find_all old files at =
    let gone : List (List ℕ × State) = map (λ (entry : Entry). (entry.path, Deleted)) (deleted old files) in
    let lacked : List (List ℕ × State) = map (λ (file : WorkingFile). (file.path, Modified)) (lacking files) in
    find_states (added_state old) (λ (file : WorkingFile). file.path) (added old files) (lacked ++ gone) at
    ∙ ap (with_states (added_state old) (paths_of (added old files)) at)
    (find_states (λ path. Modified) (λ (file : WorkingFile). file.path) (lacking files) gone at
    ∙ ap (with_states (λ path. Modified) (paths_of (lacking files)) at)
    (ap (find order at) (sym (append-nil gone)) ∙ find_states (λ path. Deleted) (λ (entry : Entry). entry.path) (deleted old files) [] at))

-- ---- a map's states
abbrev Kept : Type 0
Kept = List (Bor (List ℕ) × State)

keyed : Kept → List (List ℕ × State)
keyed kept = map (λ one. (one.0.now, one.1)) kept

find_keyed : (at : List ℕ) (kept : Kept) → find order at (keyed kept) ≡ lookup (is_at (λ key. order at key.now)) kept
unfolding keyed
find_keyed at [] = refl
find_keyed at (one ∷ kept) = ap (cond (is_eq (order at one.0.now)) (Some one.1)) (find_keyed at kept)

changes_keyed : (kept : Kept) → map (λ entry. change_at entry.0 entry.1) (keyed kept) ≡ kept_changes kept
unfolding keyed
changes_keyed [] = refl
changes_keyed (one ∷ kept) = ap (λ (l : List Change). change_at one.0.now one.1 ∷ l) (changes_keyed kept)

both : (a b : Bool) → T a → T b → T (a && b)
both true b p q = q
both false b p q = p

below_keyed : (one : Bor (List ℕ)) (kept : Kept) → AllByRecursion (λ next. order one.now next.now ≡ Less) (keys_of kept) → T (below_all order one.now (keyed kept))
unfolding keyed
below_keyed one [] less = tt
below_keyed one (line ∷ kept) less = both (is_lt (order one.now line.0.now)) (below_all order one.now (keyed kept)) (subst (λ o. T (is_lt o)) (sym less.0) tt) (below_keyed one kept less.1)

sorted_keyed : (kept : Kept) → IsStrictlySortedBy (λ one next. order one.now next.now) (keys_of kept) → T (is_sorted order (keyed kept))
unfolding keyed IsStrictlySortedBy
sorted_keyed [] sorted = tt
sorted_keyed (line ∷ kept) sorted = both (below_all order line.0.now (keyed kept)) (is_sorted order (keyed kept)) (below_keyed line.0 kept sorted.0) (sorted_keyed kept sorted.1)

pub changes_made : (old : List Entry) (files : List WorkingFile) (kept : Kept) → IsStrictlySortedBy (λ one next. order one.now next.now) (keys_of kept)
    → ((at : List ℕ) → lookup (is_at (λ key. order at key.now)) kept ≡ state_by old files at) → kept_changes kept ≡ changes old files
unfolding changes
changes_made old files kept sorted is =
    let rising = sorted_keyed kept sorted in
    let mine : FinMap order State = from_sorted (keyed kept) in
    let theirs : FinMap order State = from_entries (states_by_path old files) in
    let same : mine ≡ theirs = same_map nat_list_cmp_total (slice_cmp-IsAntisymmetric nat_cmp-IsAntisymmetric) mine theirs (λ at.
    get-from_sorted order (keyed kept) at rising ∙ find_keyed at kept ∙ is at ∙ sym (find_all old files at) ∙ sym (get-from_entries nat_list_cmp_total (states_by_path old files) at)) in
    sym (changes_keyed kept)
    ∙ ap (map (λ entry. change_at entry.0 entry.1)) (sym (entries-from_sorted order (keyed kept) rising))
    ∙ ap (λ (states : FinMap order State). map (λ entry. change_at entry.0 entry.1) (entries states)) same

pub changes_done : {E : Type 0} (r : Result (Vec Change Global) E) (states : BTreeMap (Bor (List ℕ)) State) (old : List Entry) (files : List WorkingFile) → ((at : List ℕ) → state_at states at ≡ state_by old files at)
    → IfOk r (λ list. list.items ≡ kept_changes states.entries) → IfOk r (λ _. IsOrdered (λ one next. slice_cmp nat_cmp one.now next.now) states) → IfOk r (λ list. list.items ≡ changes old files)
changes_done (Ok list) states old files at is ordered = is ∙ changes_made old files states.entries ordered at
changes_done (Err e) states old files at is ordered = tt

-- ---- the paths of kept changes ascend
paths_above : (one : Bor (List ℕ)) (kept : Kept) → AllByRecursion (λ next. order one.now next.now ≡ Less) (keys_of kept)
    → AllByRecursion (λ next. order one.now next ≡ Less) (map (λ (change : Change). change.path) (kept_changes kept))
paths_above one [] less = tt
paths_above one (line ∷ kept) less = (less.0, paths_above one kept less.1)

paths_ascend : (kept : Kept) → IsStrictlySortedBy (λ one next. order one.now next.now) (keys_of kept) → AreOrdered (kept_changes kept)
unfolding IsStrictlySortedBy
paths_ascend [] sorted = tt
paths_ascend (line ∷ kept) sorted = (paths_above line.0 kept sorted.0, paths_ascend kept sorted.1)

pub ordered_done : {E : Type 0} (r : Result (Vec Change Global) E) (states : BTreeMap (Bor (List ℕ)) State)
    → IfOk r (λ list. list.items ≡ kept_changes states.entries) → IfOk r (λ _. IsOrdered (λ one next. slice_cmp nat_cmp one.now next.now) states) → IfOk r (λ list. AreOrdered list.items)
ordered_done (Ok list) states is ordered = subst AreOrdered (sym is) (paths_ascend states.entries ordered)
ordered_done (Err e) states is ordered = tt
