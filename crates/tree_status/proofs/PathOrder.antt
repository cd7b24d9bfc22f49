-- The test of the working files' paths, which holds of files that tell.
use Rattle.std.proofs.Common.{◌≡◌, ℕ, zero, suc, ◌+◌, ◌<◌, Bool, true, false, IsTrue, not, ◌||◌, ◌&&◌, List, [], ◌∷◌, ◌++◌, map, take, length, get_or, refl, sym, ap, subst, ◌∙◌, append-nil, arith}
use Rattle.std.specs.Prelude.{◌↔◌, bytes_eq, codes}
use Rattle.std.specs.declared.cmp.Ordering.{Ordering}
use Rattle.std.specs.declared.cmp.Ordering.TheVariants.{Less, Equal, Greater}
use Rattle.std.specs.Cmp.Lexicographic.{slice_cmp}
use Rattle.std.specs.List.{All, AllByRecursion, IsAllAdjacentAnswer, list_all}
use Rattle.std.specs.List.Sorted.{IsStrictlySortedBy}
use Rattle.std.specs.Ordering.{nat_cmp, is_lt}
use Rattle.std.proofs.lemmas.Bool.{false≢true}
use Rattle.std.proofs.lemmas.Cmp.{nat_list_cmp_total}
use Rattle.places.specs.All.{Names, IsName, is_name, slashed, path_of, names_of, joined, Ground}
use Rattle.places.proofs.Grammar.{is_text-sound}
use Rattle.places.proofs.Texts.{and_both, names_of-append}
use Rattle.file_store.specs.All.{is_item_name}
use Rattle.repository.specs.All.{dlrepo}
use Rattle.git_objects.specs.All.{is_entry}
use Rattle.snapshot.specs.All.{IsEntryName, IsValidPath, name, down}
use Rattle.tree_status.specs.All.{ArePaths, AreWorking, WorkFile, is_own, is_working, path_in}
use Rattle.tree_status.specs.All.{working}
use Rattle.tree_status.proofs.Paths.{names_whole, working_whole}
use Rattle.tree_status.proofs.WorkingFiles.{IsWorkingFile, each_working, working_ascend}
use Rattle.tree_status.proofs.Standing.{IsStanding, all_standing}

-- ---- ascending
less_by : (o : Ordering) → is_lt o ≡ true → o ≡ Less
less_by Less h = refl
less_by Equal h = absurd (cc h)
less_by Greater h = absurd (cc h)

each_less : (x y : List ℕ) (paths : List (List ℕ)) → slice_cmp nat_cmp x y ≡ Less → AllByRecursion (λ k. slice_cmp nat_cmp y k ≡ Less) paths → AllByRecursion (λ k. slice_cmp nat_cmp x k ≡ Less) paths
each_less x y [] h all = tt
each_less x y (z ∷ paths) h all = (nat_list_cmp_total.trans x y z h all.0, each_less x y paths h all.1)

abbrev IsNext : List (List ℕ) → ℕ → ℕ → List ℕ → Type 0
IsNext paths k n d = slice_cmp nat_cmp (get_or paths k d) (get_or paths n d) ≡ Less

adjacent : (paths : List (List ℕ)) → ((k : ℕ) (d : List ℕ) → k + 1 < length paths → IsNext paths k (k + 1) d) → IsStrictlySortedBy (slice_cmp nat_cmp) paths
unfolding IsStrictlySortedBy
adjacent [] h = tt
adjacent (x ∷ []) h = (tt, tt)
adjacent (x ∷ y ∷ paths) h =
    let rest : IsStrictlySortedBy (slice_cmp nat_cmp) (y ∷ paths) = adjacent (y ∷ paths) (λ k d lt.
    let e : suc k + 1 ≡ suc (k + 1) = omega arith in
    subst (λ (n : ℕ). IsNext (x ∷ y ∷ paths) (suc k) n d) e (h (suc k) d (omega arith))) in
    let first : slice_cmp nat_cmp x y ≡ Less = h 0 x (omega arith) in
    ((first, each_less x y paths first rest.0), rest)

next_less : (paths : List (List ℕ)) (k : ℕ) (d : List ℕ) → IsStrictlySortedBy (slice_cmp nat_cmp) paths → k + 1 < length paths → IsNext paths k (k + 1) d
unfolding IsStrictlySortedBy
next_less [] k d h lt = absurd (omega arith)
next_less (x ∷ []) k d h lt = absurd (omega arith)
next_less (x ∷ y ∷ paths) zero d h lt = h.0.0
next_less (x ∷ y ∷ paths) (suc k) d h lt =
    let e : suc (k + 1) ≡ suc k + 1 = omega arith in
    subst (λ (n : ℕ). IsNext (x ∷ y ∷ paths) (suc k) n d) e (next_less (y ∷ paths) k d h.1 (omega arith))

abbrev pub below : List ℕ → List ℕ → Bool
below one next = is_lt (slice_cmp nat_cmp one next)

pub ascending_test : (paths : List (List ℕ)) (r : Bool) → IsAllAdjacentAnswer (λ x y b. b ≡ below x y) paths r → IsTrue r ↔ IsStrictlySortedBy (slice_cmp nat_cmp) paths
ascending_test paths true h = (λ t. adjacent paths (λ k d lt. less_by _ (sym (h k d lt))), λ sorted. refl)
ascending_test [] false h = (λ t. cc t, λ sorted. absurd (omega (arith, h.1)))
ascending_test (e ∷ es) false h = (λ t. cc t, λ sorted. absurd (false≢true (h.2 e ∙ ap is_lt (next_less (e ∷ es) h.0 e sorted h.1))))

-- ---- each valid
abbrev pub AreValid : List (List ℕ) → Type 0
AreValid paths = AllByRecursion IsValidPath paths

valid_at : (paths : List (List ℕ)) (k : ℕ) (d : List ℕ) → k < length paths → AreValid paths → IsValidPath (get_or paths k d)
valid_at [] k d lt all = absurd (omega arith)
valid_at (x ∷ paths) zero d lt all = all.0
valid_at (x ∷ paths) (suc k) d lt all = valid_at paths k d (omega arith) all.1

valid_suc : (paths : List (List ℕ)) (k : ℕ) (d : List ℕ) → k < length paths → AreValid (take k paths) → IsValidPath (get_or paths k d) → AreValid (take (suc k) paths)
valid_suc [] k d lt all h = absurd (omega arith)
valid_suc (x ∷ paths) zero d lt all h = (h, tt)
valid_suc (x ∷ paths) (suc k) d lt all h = (all.0, valid_suc paths k d (omega arith) all.1 h)

pub not_valid : (paths : List (List ℕ)) (k : ℕ) (item path : List ℕ) → k < length paths → item ≡ get_or paths k item → path ≡ item → (IsValidPath path → ⊥) → IsTrue false ↔ AreValid paths
not_valid paths k item path lt is shows bad = (λ t. cc t, λ all. absurd (bad (subst IsValidPath (sym (shows ∙ is)) (valid_at paths k item lt all))))

pub valid_more : (paths : List (List ℕ)) (k : ℕ) (item path : List ℕ) → k < length paths → item ≡ get_or paths k item → path ≡ item → AreValid (take k paths) → IsValidPath path → AreValid (take (k + 1) paths)
valid_more paths k item path lt is shows all h =
    let e : suc k ≡ k + 1 = omega arith in
    subst (λ (n : ℕ). AreValid (take n paths)) e (valid_suc paths k item lt all (subst IsValidPath (shows ∙ is) h))

-- ---- files that tell
entry_by : (a b c : Bool) → a ≡ true → not (b || c) ≡ true → (a && not c && not b) ≡ true
entry_by true false false h k = refl
entry_by true false true h k = absurd (cc k)
entry_by true true c h k = absurd (cc k)
entry_by false b c h k = absurd (cc h)

entry_name : (n : List ℕ) → is_working n ≡ true → is_name n ≡ true → IsEntryName n
unfolding is_entry
entry_name n w h = entry_by (is_name n) (bytes_eq n dlrepo) (bytes_eq n (codes ".git")) h (and_both (is_item_name n) (not (is_own n)) w).1

valid_names : (n : List ℕ) (ns : Names) → list_all is_working (n ∷ ns) ≡ true → All IsName (n ∷ ns) → IsValidPath (path_of (n ∷ ns))
valid_names n [] w h = subst IsValidPath (sym (append-nil n)) (name n (entry_name n (and_both (is_working n) true w).0 (h 0 n (omega arith))))
valid_names n (m ∷ ms) w h =
    let p = and_both (is_working n) (list_all is_working (m ∷ ms)) w in
    down n (m ++ slashed ms) (entry_name n p.0 (h 0 n (omega arith))) (valid_names m ms p.1 (λ k d lt. h (suc k) d (omega arith)))

all_back : (xs ys : Names) → All IsName (xs ++ ys) → All IsName ys
all_back [] ys h = h
all_back (x ∷ xs) ys h = all_back xs ys (λ k d lt. h (suc k) d (omega arith))

module _ (limits : List ℕ → ℕ) (root : Names) (g : Ground) where
  valid_file : (file : WorkFile) → IsStanding limits root g file → IsWorkingFile root g file.0 file.1 → IsValidPath file.0
  valid_file file s w =
      let stored = is_text-sound (joined root file.0) s.place in
      let names : names_of (joined root file.0) ≡ names_of (slashed root) ++ w.first ∷ w.others =
      names_of-append (slashed root) file.0
      ∙ ap (λ (z : Names). names_of (slashed root) ++ z) (ap names_of w.path_is ∙ names_whole (w.first ∷ w.others) (working_whole (w.first ∷ w.others) w.works)) in
      let all : All IsName (w.first ∷ w.others) = all_back (names_of (slashed root)) (w.first ∷ w.others) (subst (λ (z : Names). All IsName z) names stored.place.names) in
      subst IsValidPath (sym w.path_is) (valid_names w.first w.others w.works all)

  each_valid : (files : List WorkFile) → AllByRecursion (IsStanding limits root g) files → AllByRecursion (λ file. IsWorkingFile root g file.0 file.1) files → AllByRecursion IsValidPath (map path_in files)
  each_valid [] s w = tt
  each_valid (file ∷ files) s w = (valid_file file s.0 w.0, each_valid files s.1 w.1)

  pub told_paths : (paths : List (List ℕ)) → AreWorking limits root g paths → ArePaths paths
  told_paths paths are = record {
    ascending = subst (λ (z : List (List ℕ)). IsStrictlySortedBy (slice_cmp nat_cmp) z) (sym are.1) (working_ascend root g);
    valid = subst AreValid (sym are.1) (each_valid (working root g) (all_standing limits root g are.0) (each_working root g));
  }
