-- What has changed: files and entries that are chosen along a list, the new snapshot.
use Rattle.std.proofs.Common.{◌≡◌, ℕ, ◌+◌, ◌<◌, Bool, true, false, cond, List, [], ◌∷◌, ◌++◌, map, take, length, get_or, sym, ap, ◌∙◌, append-nil}
use Rattle.std.specs.Borrow.{Bor}
use Rattle.std.specs.List.{AllByRecursion, filter}
use Rattle.std.specs.List.Sorted.{IsStrictlySortedBy}
use Rattle.std.specs.Ordering.{nat_cmp, is_lt}
use Rattle.std.specs.Cmp.Lexicographic.{slice_cmp}
use Rattle.std.specs.declared.cmp.Ordering.TheVariants.{Less}
use Rattle.std.proofs.lemmas.List.{map-append, map_more, take_more}
use Rattle.std.proofs.lemmas.List.Elements.{filter_more}
use Rattle.snapshot.specs.All.{Below, Each, IsSorted, IsOrdered}
use Rattle.snapshot.specs.All.{IsValidPath}
use Rattle.snapshot.specs.declared.entries.Entry.{Entry}
use Rattle.snapshot.proofs.Order.{from_cmp}
use Rattle.tree_status.specs.Changed.{shown}
use Rattle.tree_status.specs.Changes.{ArePaths, new_entry, paths_of}
use Rattle.tree_status.specs.declared.found.WorkingFile.{WorkingFile}

-- ---- what is chosen along a list
module _ {A : Type 0} (p : A → Bool) (xs : List A) (i : ℕ) (d : A) (inside : i < length xs) (list : List (Bor A)) (so_far : shown list ≡ filter p (take i xs)) where
  pub taken_more : (x : Bor A) (more : List (Bor A)) → x.now ≡ get_or xs i d → p (get_or xs i d) ≡ true → more ≡ list ++ x ∷ [] → shown more ≡ filter p (take (i + 1) xs)
  taken_more x more same passes is =
      ap (λ (l : List (Bor A)). shown l) is ∙ map-append (λ (r : Bor A). r.now) list (x ∷ [])
      ∙ (λ j. so_far j ++ same j ∷ [])
      ∙ sym (filter_more p xs i d inside ∙ ap (λ b. filter p (take i xs) ++ cond b (get_or xs i d ∷ []) []) passes)

  pub left_out : p (get_or xs i d) ≡ false → shown list ≡ filter p (take (i + 1) xs)
  left_out fails =
      so_far ∙ sym (append-nil (filter p (take i xs)))
      ∙ sym (filter_more p xs i d inside ∙ ap (λ b. filter p (take i xs) ++ cond b (get_or xs i d ∷ []) []) fails)

pub shown_more : {A B : Type 0} (f : A → B) (xs : List (Bor A)) (i : ℕ) (x : Bor A) → i < length xs → x ≡ get_or xs i x → map f (shown (take (i + 1) xs)) ≡ map f (shown (take i xs)) ++ f x.now ∷ []
shown_more {A = A} f xs i x inside is =
    ap (λ (l : List (Bor A)). map f (shown l)) (take_more xs i x inside ∙ ap (λ (y : Bor A). take i xs ++ y ∷ []) (sym is))
    ∙ ap (map f) (map-append (λ (r : Bor A). r.now) (take i xs) (x ∷ []))
    ∙ map-append f (shown (take i xs)) (x.now ∷ [])

pub paths_more : (files : List WorkingFile) (i : ℕ) (file : WorkingFile) → i < length files → file ≡ get_or files i file → paths_of (take (i + 1) files) ≡ paths_of (take i files) ++ file.path ∷ []
paths_more files i file inside is = map_more (λ (f : WorkingFile). f.path) files i file inside ∙ ap (λ (f : WorkingFile). paths_of (take i files) ++ f.path ∷ []) (sym is)

-- ---- the new snapshot's paths
each_after : (old : List Entry) (x : List ℕ) (files : List WorkingFile) → AllByRecursion (λ y. slice_cmp nat_cmp x y ≡ Less) (paths_of files) → Each (λ f. Below x f.path) (map (new_entry old) files)
each_after old x [] less = tt
each_after old x (file ∷ files) less = (from_cmp x file.path (ap is_lt less.0), each_after old x files less.1)

sorted_entries : (old : List Entry) (files : List WorkingFile) → IsStrictlySortedBy (slice_cmp nat_cmp) (paths_of files) → IsSorted (map (new_entry old) files)
unfolding IsStrictlySortedBy
sorted_entries old [] ascending = tt
sorted_entries old (file ∷ files) ascending = (each_after old file.path files ascending.0, sorted_entries old files ascending.1)

valid_entries : (old : List Entry) (files : List WorkingFile) → AllByRecursion IsValidPath (paths_of files) → Each (λ e. IsValidPath e.path) (map (new_entry old) files)
valid_entries old [] valid = tt
valid_entries old (file ∷ files) valid = (valid.0, valid_entries old files valid.1)

pub ordered_entries : (old : List Entry) (files : List WorkingFile) → ArePaths (paths_of files) → IsOrdered (map (new_entry old) files)
ordered_entries old files paths = record { sorted = sorted_entries old files paths.ascending; valid = valid_entries old files paths.valid }
