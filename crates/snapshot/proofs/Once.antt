-- A valid directory without empty ones in it is told by its paths.
use Rattle.std.proofs.Common.{◌≡◌, ℕ, Bool, true, false, ◌||◌, List, [], ◌∷◌, ◌++◌, refl, sym, ap, subst, ◌∙◌, append_assoc, append-nil}
use Rattle.std.specs.Prelude.{◌==◌}
use Rattle.std.specs.List.{All, list_any, list_all}
use Rattle.std.proofs.lemmas.Bool.{and_parts, false≢true}
use Rattle.std.proofs.lemmas.List.{append_cancel_left}
use Rattle.std.proofs.lemmas.List.Elements.{All-tail}
use Rattle.std.proofs.lemmas.List.Folds.{list_any-append}
use Rattle.places.specs.All.{slash}
use Rattle.git_objects.specs.All.{is_entry, is_before, is_tree, IsEntryStored}
use Rattle.git_objects.specs.declared.entries.TreeEntry.{TreeEntry}
use Rattle.git_objects.proofs.Parsing.{cut_once, tree_parts}
use Rattle.git_objects.proofs.Twins.{names_differ, whole_name, named_from_tree}
use Rattle.snapshot.specs.Leaves.{leaf_entry, dir_entry}
use Rattle.snapshot.specs.Dirs.{Dir, Empty, Item, Sub, entries_of, root_id, inside, listed}
use Rattle.snapshot.specs.Dirs.{IsTreeOf, IsDir, IsDense, is_empty}
use Rattle.snapshot.specs.Builds.{IsSingle}
use Rattle.snapshot.specs.Order.{Each}
use Rattle.snapshot.specs.declared.entries.Entry.{Entry}

-- ---- paths that begin so
abbrev pub Under : List ℕ → Entry → Type 0
Under front entry = (rest : List ℕ) × (entry.path ≡ front ++ rest)

pub Each-append : (P : Entry → Type 0) (xs ys : List Entry) → Each P xs → Each P ys → Each P (xs ++ ys)
Each-append P [] ys h k = k
Each-append P (x ∷ xs) ys h k = (h.0, Each-append P xs ys h.1 k)

pub Each-weaker : (P Q : Entry → Type 0) → ((e : Entry) → P e → Q e) → (xs : List Entry) → Each P xs → Each Q xs
Each-weaker P Q w [] h = tt
Each-weaker P Q w (x ∷ xs) h = (w x h.0, Each-weaker P Q w xs h.1)

-- two lists of which the fronts pass and the rests don't
split_apart : (P : Entry → Type 0) (xs ys xs' ys' : List Entry) → Each P xs → Each P xs' → Each (λ e. P e → ⊥) ys → Each (λ e. P e → ⊥) ys' → xs ++ ys ≡ xs' ++ ys' → (xs ≡ xs') × (ys ≡ ys')
split_apart P [] ys [] ys' h h' k k' e = (refl, e)
split_apart P [] ys (x ∷ xs') ys' h h' k k' e = absurd ((subst (λ (z : List Entry). Each (λ e. P e → ⊥) z) e k).0 h'.0)
split_apart P (x ∷ xs) ys [] ys' h h' k k' e = absurd ((subst (λ (z : List Entry). Each (λ e. P e → ⊥) z) (sym e) k').0 h.0)
split_apart P (x ∷ xs) ys (x' ∷ xs') ys' h h' k k' e =
    let head : x ≡ x' = cc e in
    let tail : xs ++ ys ≡ xs' ++ ys' = cc e in
    let more = split_apart P xs ys xs' ys' h.1 h'.1 k k' tail in
    ((λ i. head i ∷ more.0 i), more.1)

pub deeper : (a b name : List ℕ) → inside (a ++ b) name ≡ a ++ inside b name
deeper a b name = ap (λ (z : List ℕ). z ++ slash ∷ []) (append_assoc a b name) ∙ append_assoc a (b ++ name) (slash ∷ [])

all_under_front : (front more : List ℕ) (dir : Dir) → Each (Under front) (listed (front ++ more) dir)
all_under_front front more Empty = tt
all_under_front front more (Item n l m) = ((more ++ n, append_assoc front more n), all_under_front front more m)
all_under_front front more (Sub n s m) =
    Each-append (Under front) (listed (inside (front ++ more) n) s) (listed (front ++ more) m)
    (subst (λ (z : List ℕ). Each (Under front) (listed z s)) (sym (deeper front more n)) (all_under_front front (inside more n) s)) (all_under_front front more m)

-- what is in a directory lies below its path
pub all_under : (front : List ℕ) (dir : Dir) → Each (Under front) (listed front dir)
all_under front dir = subst (λ (z : List ℕ). Each (Under front) (listed z dir)) (append-nil front) (all_under_front front [] dir)

-- ---- names
some_slash : (n rest : List ℕ) → list_any (λ b. b == slash) (n ++ slash ∷ rest) ≡ true
some_slash n rest = list_any-append (λ b. b == slash) n (slash ∷ rest) ∙ or_true (list_any (λ b. b == slash) n)
  where
    or_true : (b : Bool) → (b || true) ≡ true
    or_true true = refl
    or_true false = refl

pub single_or_not : (m n rest : List ℕ) → IsSingle m → m ≡ n ++ slash ∷ rest → ⊥
single_or_not m n rest single e = false≢true (sym single ∙ ap (list_any (λ b. b == slash)) e ∙ some_slash n rest)

-- a path below a directory, from the path above
pub past : (path n rest : List ℕ) → inside path n ++ rest ≡ path ++ n ++ slash ∷ rest
past path n rest = append_assoc (path ++ n) (slash ∷ []) rest

pub below_single : (path m n rest : List ℕ) → IsSingle m → path ++ m ≡ inside path n ++ rest → ⊥
below_single path m n rest single e = single_or_not m n rest single (append_cancel_left path m (n ++ slash ∷ rest) (e ∙ past path n rest ∙ append_assoc path n (slash ∷ rest)))

pub same_dir : (path m n x y : List ℕ) → IsSingle m → IsSingle n → inside path m ++ x ≡ inside path n ++ y → m ≡ n
same_dir path m n x y one two e =
    (cut_once slash m n x y one two
    (append_cancel_left path (m ++ slash ∷ x) (n ++ slash ∷ y) (sym (append_assoc path m (slash ∷ x)) ∙ sym (past path m x) ∙ e ∙ past path n y ∙ append_assoc path n (slash ∷ y)))).0

-- the names are valid ones, and none of them this one
abbrev pub Apart : List ℕ → Dir → Type 0
Apart n Empty = Unit {0}
Apart n (Item m l more) = IsSingle m × (m ≡ n → ⊥) × Apart n more
Apart n (Sub m s more) = IsSingle m × (m ≡ n → ⊥) × Apart n more

pub none_under : (path n : List ℕ) (dir : Dir) → IsSingle n → Apart n dir → Each (λ e. Under (inside path n) e → ⊥) (listed path dir)
none_under path n Empty single apart = tt
none_under path n (Item m l more) single apart = ((λ (rest, e). below_single path m n rest apart.0 e), none_under path n more single apart.2)
none_under path n (Sub m s more) single apart =
    Each-append (λ e. Under (inside path n) e → ⊥) (listed (inside path m) s) (listed path more)
    (Each-weaker (Under (inside path m)) (λ e. Under (inside path n) e → ⊥) (λ e (x, own) (y, other). apart.1 (same_dir path m n x y apart.0 single (sym own ∙ other))) (listed (inside path m) s) (all_under (inside path m) s))
    (none_under path n more single apart.2)

pub apart_rest : (e : TreeEntry) (dir : Dir) → list_all (is_before e) (entries_of dir) ≡ true → list_all is_entry (entries_of dir) ≡ true → Apart e.name dir
apart_rest e Empty before named = tt
apart_rest e (Item m l more) before named =
    let b = and_parts (is_before e (leaf_entry m l)) (list_all (is_before e) (entries_of more)) before in
    let n = and_parts (is_entry (leaf_entry m l)) (list_all is_entry (entries_of more)) named in
    (whole_name (leaf_entry m l) n.0, (λ same. names_differ e (leaf_entry m l) b.0 (sym same)), apart_rest e more b.1 n.1)
apart_rest e (Sub m s more) before named =
    let d = dir_entry m (record { 0 = root_id s }) in
    let b = and_parts (is_before e d) (list_all (is_before e) (entries_of more)) before in
    let n = and_parts (is_entry d) (list_all is_entry (entries_of more)) named in
    (whole_name d n.0, (λ same. names_differ e d b.0 (sym same)), apart_rest e more b.1 n.1)

-- the first entry's name, and what the others have
pub record FirstParts (e : TreeEntry) (more : Dir) : Type 0 where
  pub single : IsSingle e.name
  pub apart : Apart e.name more
  pub tree : IsTreeOf more

pub first_parts : (e : TreeEntry) (more : Dir) → All IsEntryStored (e ∷ entries_of more) → is_tree (e ∷ entries_of more) ≡ true → FirstParts e more
first_parts e more stored valid =
    let parts = tree_parts e (entries_of more) valid in
    record {
      single = whole_name e parts.named;
      apart = apart_rest e more parts.before (named_from_tree (entries_of more) parts.rest);
      tree = record { stored = All-tail IsEntryStored e (entries_of more) stored; valid = parts.rest };
    }

-- a directory that isn't empty has a path, below its own
pub record FirstPath (path : List ℕ) (dir : Dir) : Type 0 where
  pub first : Entry
  pub rest : List Entry
  pub split : listed path dir ≡ first ∷ rest
  pub under : Under path first

pub first_path : (path : List ℕ) (dir : Dir) → is_empty dir ≡ false → IsDense dir → FirstPath path dir
first_path path Empty some dense = absurd (cc some)
first_path path (Item n l m) some dense = record { first = record { path = path ++ n; leaf = l }; rest = listed path m; split = refl; under = (n, refl) }
first_path path (Sub n s m) some dense =
    let own = first_path (inside path n) s dense.0 dense.1 in
    record {
      first = own.first;
      rest = own.rest ++ listed path m;
      split = ap (λ (z : List Entry). z ++ listed path m) own.split;
      under = ((n ++ slash ∷ []) ++ own.under.0, own.under.1 ∙ ap (λ (z : List ℕ). z ++ own.under.0) (append_assoc path n (slash ∷ [])) ∙ append_assoc path (n ++ slash ∷ []) own.under.0);
    }

head_same : (x y : Entry) (xs ys : List Entry) → x ∷ xs ≡ y ∷ ys → x ≡ y
head_same x y xs ys e = cc e

-- ---- the directory of its paths
pub paths_once : (path : List ℕ) (a b : Dir) → IsDir a → IsDir b → IsDense a → IsDense b → listed path a ≡ listed path b → a ≡ b
paths_once path Empty Empty va vb da db e = refl
paths_once path Empty (Item n l m) va vb da db e = cc e
paths_once path Empty (Sub n s m) va vb da db e =
    let f = first_path path (Sub n s m) refl db in
    let g : [] ≡ f.first ∷ f.rest = e ∙ f.split in
    cc g
paths_once path (Item n l m) Empty va vb da db e = cc e
paths_once path (Sub n s m) Empty va vb da db e =
    let f = first_path path (Sub n s m) refl da in
    let g : f.first ∷ f.rest ≡ [] = sym f.split ∙ e in
    cc g
paths_once path (Item n l m) (Item n' l' m') va vb da db e =
    let head : record { path = path ++ n; leaf = l } ≡ record { path = path ++ n'; leaf = l' } = head_same _ _ (listed path m) (listed path m') e in
    let tail : listed path m ≡ listed path m' = cc e in
    let name : n ≡ n' = append_cancel_left path n n' (ap (λ (z : Entry). z.path) head) in
    let one = first_parts (leaf_entry n l) m va.0.stored va.0.valid in
    let two = first_parts (leaf_entry n' l') m' vb.0.stored vb.0.valid in
    let more = paths_once path m m' (one.tree, va.1) (two.tree, vb.1) da db tail in
    λ i. Item (name i) (head i).leaf (more i)
paths_once path (Item n l m) (Sub n' s' m') va vb da db e =
    let f = first_path (inside path n') s' db.0 db.1 in
    let g : record { path = path ++ n; leaf = l } ≡ f.first = head_same _ _ (listed path m) (f.rest ++ listed path m') (e ∙ ap (λ (z : List Entry). z ++ listed path m') f.split) in
    let one = first_parts (leaf_entry n l) m va.0.stored va.0.valid in
    absurd (below_single path n n' f.under.0 one.single (ap (λ (z : Entry). z.path) g ∙ f.under.1))
paths_once path (Sub n s m) (Item n' l' m') va vb da db e =
    let f = first_path (inside path n) s da.0 da.1 in
    let g : record { path = path ++ n'; leaf = l' } ≡ f.first = head_same _ _ (listed path m') (f.rest ++ listed path m) (sym e ∙ ap (λ (z : List Entry). z ++ listed path m) f.split) in
    let two = first_parts (leaf_entry n' l') m' vb.0.stored vb.0.valid in
    absurd (below_single path n' n f.under.0 two.single (ap (λ (z : Entry). z.path) g ∙ f.under.1))
paths_once path (Sub n s m) (Sub n' s' m') va vb da db e =
    let one = first_parts (dir_entry n (record { 0 = root_id s })) m va.0.stored va.0.valid in
    let two = first_parts (dir_entry n' (record { 0 = root_id s' })) m' vb.0.stored vb.0.valid in
    let f = first_path (inside path n) s da.0 da.1 in
    let g = first_path (inside path n') s' db.0 db.1 in
    let same : f.first ≡ g.first = head_same _ _ (f.rest ++ listed path m) (g.rest ++ listed path m') (ap (λ (z : List Entry). z ++ listed path m) (sym f.split) ∙ e ∙ ap (λ (z : List Entry). z ++ listed path m') g.split) in
    let name : n ≡ n' = same_dir path n n' f.under.0 g.under.0 one.single two.single (sym f.under.1 ∙ ap (λ (z : Entry). z.path) same ∙ g.under.1) in
    let lists : listed (inside path n) s ++ listed path m ≡ listed (inside path n) s' ++ listed path m' = e ∙ ap (λ (z : List ℕ). listed (inside path z) s' ++ listed path m') (sym name) in
    let apart = subst (λ (z : List ℕ). Apart z m') (sym name) two.apart in
    let parts = split_apart (Under (inside path n)) (listed (inside path n) s) (listed path m) (listed (inside path n) s') (listed path m')
    (all_under (inside path n) s) (all_under (inside path n) s') (none_under path n m one.single one.apart) (none_under path n m' one.single apart) lists in
    let own = paths_once (inside path n) s s' (va.1.0, va.1.1) (vb.1.0, vb.1.1) da.1 db.1 parts.0 in
    let more = paths_once path m m' (one.tree, va.1.2) (two.tree, vb.1.2) da.2 db.2 parts.1 in
    λ i. Sub (name i) (own i) (more i)
