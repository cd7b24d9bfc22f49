-- What the working files below a root are: for the crates above.
use Rattle.std.proofs.Common.{◌≡◌, ℕ, Bool, true, false, cond, List, [], ◌∷◌, ◌++◌, map, Option, Some, None, refl, sym, ap, ◌∙◌}
use Rattle.std.specs.List.{AllByRecursion, list_all}
use Rattle.std.specs.List.Sorted.{IsStrictlySortedBy}
use Rattle.std.specs.FinMap.{entries, entries_sorted, get-entries, find, is_sorted}
use Rattle.std.specs.FinMap.Entries.{below_all}
use Rattle.std.specs.declared.cmp.Ordering.TheVariants.{Less}
use Rattle.std.specs.Ordering.{nat_cmp, is_lt, eq_by_cmp}
use Rattle.std.specs.Cmp.Lexicographic.{slice_cmp}
use Rattle.places.specs.All.{Names, path_of, is_text, text_of, all_but_last, Ground, file_at}
use Rattle.places.specs.All.{stands_below}
use Rattle.places.proofs.Texts.{and_both}
use Rattle.tree_status.specs.Working.{ItemKind, Directory, Nested, Working, is_working, is_met}
use Rattle.tree_status.specs.Working.{is_nested, item_kind, item_of, item_at, items, files_among}
use Rattle.tree_status.specs.Working.{path_in, working}
use Rattle.tree_status.proofs.Items.{IsFound, each_item, item_is}
use Rattle.tree_status.proofs.Sorted.{true_of, less_of}

-- THEIR ORDER
files_below : (path : List ℕ) (es : List (List ℕ × ItemKind)) → below_all (slice_cmp nat_cmp) path es ≡ true → AllByRecursion (λ k. slice_cmp nat_cmp path k ≡ Less) (map path_in (files_among es))
files_below path [] below = tt
files_below path ((p, Directory) ∷ es) below = files_below path es (and_both (is_lt (slice_cmp nat_cmp path p)) (below_all (slice_cmp nat_cmp) path es) below).1
files_below path ((p, Nested) ∷ es) below = files_below path es (and_both (is_lt (slice_cmp nat_cmp path p)) (below_all (slice_cmp nat_cmp) path es) below).1
files_below path ((p, Working bytes) ∷ es) below =
    let b = and_both (is_lt (slice_cmp nat_cmp path p)) (below_all (slice_cmp nat_cmp) path es) below in
    (less_of (slice_cmp nat_cmp path p) b.0, files_below path es b.1)

files_ascend : (es : List (List ℕ × ItemKind)) → is_sorted (slice_cmp nat_cmp) es ≡ true → IsStrictlySortedBy (slice_cmp nat_cmp) (map path_in (files_among es))
unfolding IsStrictlySortedBy
files_ascend [] sorted = tt
files_ascend ((p, Directory) ∷ es) sorted = files_ascend es (and_both (below_all (slice_cmp nat_cmp) p es) (is_sorted (slice_cmp nat_cmp) es) sorted).1
files_ascend ((p, Nested) ∷ es) sorted = files_ascend es (and_both (below_all (slice_cmp nat_cmp) p es) (is_sorted (slice_cmp nat_cmp) es) sorted).1
files_ascend ((p, Working bytes) ∷ es) sorted =
    let s = and_both (below_all (slice_cmp nat_cmp) p es) (is_sorted (slice_cmp nat_cmp) es) sorted in
    (files_below p es s.0, files_ascend es s.1)

-- the paths ascend in byte order
pub working_ascend : (root : Names) (g : Ground) → IsStrictlySortedBy (slice_cmp nat_cmp) (map path_in (working root g))
working_ascend root g = files_ascend (entries (items root g)) (true_of _ (entries_sorted (items root g)))

-- EACH OF THEM
pub record IsWorkingFile (root : Names) (g : Ground) (path bytes : List ℕ) : Type 0 where
  pub first : List ℕ
  pub others : Names
  pub path_is : path ≡ path_of (first ∷ others)
  pub works : list_all is_working (first ∷ others) ≡ true
  pub file : file_at g (root ++ first ∷ others) ≡ Some bytes

file_of_kind : (o : Option (List ℕ)) (nested : Bool) (bytes : List ℕ) → Working bytes ≡ item_kind o nested → o ≡ Some bytes
file_of_kind (Some found) nested bytes e = ap Some (sym (same_bytes bytes found e))
  where
    same_bytes : (a b : List ℕ) → Working a ≡ Working b → a ≡ b
    same_bytes a b e = cc e
file_of_kind None true bytes e = absurd (cc e)
file_of_kind None false bytes e = absurd (cc e)

module _ (root : Names) (g : Ground) where
  each_file : (es : List (List ℕ × ItemKind)) → AllByRecursion (λ e. IsFound root g e.0 e.1) es → AllByRecursion (λ file. IsWorkingFile root g file.0 file.1) (files_among es)
  each_file [] found = tt
  each_file ((p, Directory) ∷ es) found = each_file es found.1
  each_file ((p, Nested) ∷ es) found = each_file es found.1
  each_file ((p, Working bytes) ∷ es) found = (here found.0, each_file es found.1)
    where
      here : IsFound root g p (Working bytes) → IsWorkingFile root g p bytes
      here f = record {
        first = f.met.first;
        others = f.met.others;
        path_is = f.path_is ∙ ap path_of f.met.some;
        works = ap (list_all is_working) (sym f.met.some) ∙ (and_both (list_all is_working f.names) (is_text (text_of (root ++ all_but_last f.names))) f.met.met).0;
        file = ap (λ (z : Names). file_at g (root ++ z)) (sym f.met.some) ∙ file_of_kind (file_at g (root ++ f.names)) (is_nested g (root ++ f.names)) bytes f.kind_is;
      }

  -- each is a file of the ground whose names are working
  pub each_working : AllByRecursion (λ file. IsWorkingFile root g file.0 file.1) (working root g)
  each_working = each_file (entries (items root g)) (each_item root g)

  find_file : (path bytes : List ℕ) (es : List (List ℕ × ItemKind)) → find (slice_cmp nat_cmp) path es ≡ Some (Working bytes) → find (slice_cmp nat_cmp) path (files_among es) ≡ Some bytes
  find_file path bytes [] e = absurd (cc e)
  find_file path bytes ((p, kind) ∷ es) e = by kind (eq_by_cmp (slice_cmp nat_cmp) path p) refl (find_file path bytes es) e
    where
      same_kind : (a b : ItemKind) → Some a ≡ Some b → a ≡ b
      same_kind a b e = cc e

      by : (k : ItemKind) (b : Bool) → eq_by_cmp (slice_cmp nat_cmp) path p ≡ b → (find (slice_cmp nat_cmp) path es ≡ Some (Working bytes) → find (slice_cmp nat_cmp) path (files_among es) ≡ Some bytes)
          → cond (eq_by_cmp (slice_cmp nat_cmp) path p) (Some k) (find (slice_cmp nat_cmp) path es) ≡ Some (Working bytes) → find (slice_cmp nat_cmp) path (files_among ((p, k) ∷ es)) ≡ Some bytes
      by Directory true is rest e = absurd (cc (same_kind Directory (Working bytes) (sym (ap (λ b. cond b (Some Directory) (find (slice_cmp nat_cmp) path es)) is) ∙ e)))
      by Directory false is rest e = rest (sym (ap (λ b. cond b (Some Directory) (find (slice_cmp nat_cmp) path es)) is) ∙ e)
      by Nested true is rest e = absurd (cc (same_kind Nested (Working bytes) (sym (ap (λ b. cond b (Some Nested) (find (slice_cmp nat_cmp) path es)) is) ∙ e)))
      by Nested false is rest e = rest (sym (ap (λ b. cond b (Some Nested) (find (slice_cmp nat_cmp) path es)) is) ∙ e)
      by (Working found) true is rest e =
          let same : Working found ≡ Working bytes = same_kind (Working found) (Working bytes) (sym (ap (λ b. cond b (Some (Working found)) (find (slice_cmp nat_cmp) path es)) is) ∙ e) in
          let equal : found ≡ bytes = cc same in
          ap (λ b. cond b (Some found) (find (slice_cmp nat_cmp) path (files_among es))) is ∙ ap Some equal
      by (Working found) false is rest e =
          ap (λ b. cond b (Some found) (find (slice_cmp nat_cmp) path (files_among es))) is
          ∙ rest (sym (ap (λ b. cond b (Some (Working found)) (find (slice_cmp nat_cmp) path es)) is) ∙ e)

  -- and each such file is there, by its path
  pub working_has : (n : List ℕ) (ns : Names) (bytes : List ℕ) → is_met root (n ∷ ns) ≡ true → file_at g (root ++ n ∷ ns) ≡ Some bytes → find (slice_cmp nat_cmp) (path_of (n ∷ ns)) (working root g) ≡ Some bytes
  unfolding item_at
  working_has n ns bytes met file =
      find_file (path_of (n ∷ ns)) bytes (entries (items root g))
      (sym (get-entries (items root g) (path_of (n ∷ ns))) ∙ item_is root g n ns met
      ∙ ap (λ (o : Option (List ℕ)). item_of o (stands_below g (root ++ n ∷ ns)) (is_nested g (root ++ n ∷ ns))) file)
