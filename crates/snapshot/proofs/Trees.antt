-- What is built of a list of paths.
use Rattle.std.proofs.Common.{◌≡◌, ℕ, zero, suc, ◌+◌, ◌-◌, ◌<◌, ◌≤◌, Bool, true, false, List, [], ◌∷◌, ◌++◌, length, take, drop, refl, sym, ap, subst, ◌∙◌, arith, append_assoc, append-nil, length-append}
use Rattle.std.proofs.Math.Seq.{drop-append_seam}
use Rattle.std.proofs.lemmas.Grind.{common_steps}
use Rattle.places.specs.All.{slash}
use Rattle.git_objects.specs.All.{is_tree}
use Rattle.git_objects.specs.declared.entries.TreeEntry.{TreeEntry}
use Rattle.object_store.specs.declared.objects.NewObject.{NewObject}
use Rattle.snapshot.specs.Leaves.{leaf_entry, dir_entry}
use Rattle.snapshot.specs.Dirs.{Dir, Empty, Item, Sub, entries_of, tree_of, inner_objects}
use Rattle.snapshot.specs.Dirs.{tree_objects, inside, listed, paths_of, IsTreeOf, is_empty, joined}
use Rattle.std.proofs.Common.{Option, Some, None, Result, Ok, Err, get_or}
use Rattle.std.specs.Prelude.{MatchOption, IfOk, ◌==◌}
use Rattle.snapshot.specs.Order.{IsPathList}
use Rattle.snapshot.proofs.Valid.{back_list, tree_of_paths}
use denote.Ref.{Bor}
use Rattle.std.specs.List.{position, position_or_len, before_first, after_first}
use Rattle.std.proofs.lemmas.Bool.{eqb-true}
use Rattle.std.proofs.lemmas.List.{append_cancel_left, take-append-drop, length-take-le, get_or-take}
use Rattle.std.proofs.lemmas.List.Folds.{list_any_none}
use Rattle.std.proofs.lemmas.List.Quantifiers.{position-Some}
use Rattle.std.proofs.lemmas.List.Sums.{fails_before_first, split_at_first}
use Rattle.std.proofs.Math.Seq.{drop-cons}
use Rattle.snapshot.specs.declared.building.Rest.{Rest}
use Rattle.snapshot.specs.Builds.{IsSingle, seen, all_seen}
use Rattle.snapshot.specs.Builds.{below as below_path, all_below, weight, LeavesDir, AreGrouped}
use Rattle.snapshot.specs.Builds.{IsGroup, BuildsNext, BuildsFront, BuildsDir, PutsTree}
use Rattle.snapshot.specs.declared.entries.Entry.{Entry}
use Rattle.snapshot.proofs.Joins.{entries_of-joined, listed-joined, inner_objects-joined, EachSub-joined}

-- ---- paths below a directory's
all_below-append : (path : List ℕ) (xs ys : List Entry) → all_below path (xs ++ ys) ≡ all_below path xs ++ all_below path ys
all_below-append path [] ys = refl
all_below-append path (x ∷ xs) ys = ap (λ (z : List Entry). below_path path x ∷ z) (all_below-append path xs ys)

listed-front : (a b : List ℕ) (dir : Dir) → listed (a ++ b) dir ≡ all_below a (listed b dir)
listed-front a b Empty = refl
listed-front a b (Item name leaf more) = λ i. record { path = append_assoc a b name i; leaf = leaf } ∷ listed-front a b more i
listed-front a b (Sub name sub more) =
    let path : inside (a ++ b) name ≡ a ++ inside b name = ap (λ (z : List ℕ). z ++ slash ∷ []) (append_assoc a b name) ∙ append_assoc a (b ++ name) (slash ∷ []) in
    let own : listed (inside (a ++ b) name) sub ≡ all_below a (listed (inside b name) sub) = ap (λ (z : List ℕ). listed z sub) path ∙ listed-front a (inside b name) sub in
    (λ i. own i ++ listed-front a b more i) ∙ sym (all_below-append a (listed (inside b name) sub) (listed b more))

pub listed-below : (path : List ℕ) (dir : Dir) → listed path dir ≡ all_below path (paths_of dir)
listed-below path dir = ap (λ (z : List ℕ). listed z dir) (sym (append-nil path)) ∙ listed-front path [] dir

pub length-all_below : (path : List ℕ) (xs : List Entry) → length (all_below path xs) ≡ length xs
length-all_below path [] = refl
length-all_below path (x ∷ xs) = ap suc (length-all_below path xs)

-- ---- the weight of a list
pub weight-append : (xs ys : List Entry) → weight (xs ++ ys) ≡ weight xs + weight ys
weight-append [] ys = omega arith
weight-append (x ∷ xs) ys = omega (arith, weight-append xs ys)

weight-below : (path : List ℕ) (xs : List Entry) → weight xs ≤ weight (all_below path xs)
weight-below path [] = omega arith
weight-below path (x ∷ xs) = omega (arith, weight-below path xs, length-append path x.path)

-- a directory's paths weigh less than they did above it
pub weight-group : (name : List ℕ) (list part : List Entry) → IsGroup name list part → 0 < length part → weight part < weight list
weight-group name list [] group some = absurd (omega arith)
weight-group name list (x ∷ part) group some =
    let path = name ++ slash ∷ [] in
    omega (arith, ap weight group.split, weight-append (all_below path (x ∷ part)) group.after, weight-below path part, length-append path x.path, length-append name (slash ∷ []))

-- the first path of a list lies in the directory, so some do
pub group_some : (name rest : List ℕ) (first : Entry) (list part : List Entry) → first.path ≡ name ++ slash ∷ rest → IsGroup name (first ∷ list) part → 0 < length part
group_some name rest first list [] e group = absurd (subst (λ (z : List Entry). LeavesDir name z) (sym group.split) group.ends rest e)
group_some name rest first list (x ∷ part) e group = omega arith

-- ---- one item
pub leaf_next : (first : Entry) (list : List Entry) (entries : List TreeEntry) (objects : List NewObject) → IsSingle first.path → BuildsNext (first ∷ list) 1 entries (entries ++ leaf_entry first.path first.leaf ∷ []) objects objects
leaf_next first list entries objects single = record {
  one = Item first.path first.leaf Empty;
  split = refl;
  some = omega arith;
  within = omega arith;
  dense = tt;
  subs = tt;
  grouped = (single, tt);
  spelled = refl;
  put = sym (append-nil objects);
}

not_empty : (dir : Dir) → 0 < length (paths_of dir) → is_empty dir ≡ false
not_empty Empty h = absurd (omega arith)
not_empty (Item name leaf more) h = refl
not_empty (Sub name sub more) h = refl

pub dir_next : (name : List ℕ) (list part : List Entry) (id : List ℕ) (entries : List TreeEntry) (objects stored : List NewObject) → IsSingle name → IsGroup name list part → 0 < length part
    → BuildsDir part id objects stored → BuildsNext list (length part) entries (entries ++ dir_entry name (record { 0 = id }) ∷ []) objects stored
dir_next name list part id entries objects stored single group some built =
    let dir = built.dir in
    let path = name ++ slash ∷ [] in
    let paths : all_below path part ≡ listed path dir = ap (all_below path) built.built.same ∙ sym (listed-below path dir) in
    let whole : list ≡ (listed path dir ++ []) ++ group.after = group.split ∙ ap (λ (z : List Entry). z ++ group.after) (paths ∙ sym (append-nil (listed path dir))) in
    let size = length-all_below path part in
    let rest : drop (length part) list ≡ group.after =
    ap (drop (length part)) group.split ∙ ap (λ (n : ℕ). drop n (all_below path part ++ group.after)) (sym size) ∙ drop-append_seam (all_below path part) group.after in
    record {
      one = Sub name dir Empty;
      split = whole ∙ ap (λ (z : List Entry). (listed path dir ++ []) ++ z) (sym rest);
      some = some;
      within = omega (arith, ap length group.split, length-append (all_below path part) group.after, size);
      dense = (not_empty dir (subst (λ (z : List Entry). 0 < length z) built.built.same some), built.built.dense, tt);
      subs = (built.tree, built.built.subs, tt);
      grouped = (single, subst (λ (z : List Entry). LeavesDir name z) (sym rest) group.ends, tt);
      spelled = ap (λ (z : List ℕ). entries ++ dir_entry name (record { 0 = z }) ∷ []) built.root;
      put = built.put ∙ ap (λ (z : List NewObject). objects ++ z) (sym (append-nil (tree_objects dir)));
    }

-- ---- the items of a directory, one after the other
grouped-joined : (a b : Dir) (next : List Entry) → AreGrouped a (paths_of b ++ next) → AreGrouped b next → AreGrouped (joined a b) next
grouped-joined Empty b next h k = k
grouped-joined (Item n l m) b next h k = (h.0, grouped-joined m b next h.1 k)
grouped-joined (Sub n s m) b next h k = (
  h.0,
  subst (λ (z : List Entry). LeavesDir n z) (sym (append_assoc (paths_of m) (paths_of b) next) ∙ ap (λ (z : List Entry). z ++ next) (sym (listed-joined [] m b))) h.1,
  grouped-joined m b next h.2 k,
)

pub nothing_yet : (list : List Entry) (objects : List NewObject) → BuildsFront list list [] objects objects
nothing_yet list objects = record { dir = Empty; split = refl; dense = tt; subs = tt; grouped = tt; spelled = refl; put = sym (append-nil objects) }

pub one_more : (list left : List Entry) (taken : ℕ) (entries more : List TreeEntry) (objects mid stored : List NewObject) → BuildsFront list left entries objects mid
    → BuildsNext left taken entries more mid stored → BuildsFront list (drop taken left) more objects stored
one_more list left taken entries more objects mid stored front next = record {
  dir = joined front.dir next.one;
  split =
      front.split ∙ ap (λ (z : List Entry). paths_of front.dir ++ z) next.split ∙ sym (append_assoc (paths_of front.dir) (paths_of next.one) (drop taken left))
      ∙ ap (λ (z : List Entry). z ++ drop taken left) (sym (listed-joined [] front.dir next.one));
  dense = EachSub-joined (λ sub. is_empty sub ≡ false) front.dir next.one front.dense next.dense;
  subs = EachSub-joined IsTreeOf front.dir next.one front.subs next.subs;
  grouped = grouped-joined front.dir next.one (drop taken left) (subst (AreGrouped front.dir) next.split front.grouped) next.grouped;
  spelled = next.spelled ∙ ap (λ (z : List TreeEntry). z ++ entries_of next.one) front.spelled ∙ sym (entries_of-joined front.dir next.one);
  put =
      next.put ∙ ap (λ (z : List NewObject). z ++ inner_objects next.one) front.put ∙ append_assoc objects (inner_objects front.dir) (inner_objects next.one)
      ∙ ap (λ (z : List NewObject). objects ++ z) (sym (inner_objects-joined front.dir next.one));
}

pub whole_dir : (list : List Entry) (entries : List TreeEntry) (id : List ℕ) (objects mid stored : List NewObject) → BuildsFront list [] entries objects mid → PutsTree entries id mid stored → BuildsDir list id objects stored
whole_dir list entries id objects mid stored front put =
    let P : List TreeEntry → Type 0 = λ es. PutsTree es id mid stored in
    let own = subst P front.spelled put in
    record {
      dir = front.dir;
      built = record { same = front.split ∙ append-nil (paths_of front.dir); dense = front.dense; subs = front.subs };
      tree = record { stored = own.kept; valid = own.valid };
      root = own.root;
      put = own.put ∙ ap (λ (z : List NewObject). z ++ tree_of front.dir ∷ []) front.put ∙ append_assoc objects (inner_objects front.dir) (tree_of front.dir ∷ []);
    }

-- ---- what the code looks at
all_seen-append : (xs ys : List Rest) → all_seen (xs ++ ys) ≡ all_seen xs ++ all_seen ys
all_seen-append [] ys = refl
all_seen-append (x ∷ xs) ys = ap (λ (z : List Entry). seen x ∷ z) (all_seen-append xs ys)

pub length-all_seen : (xs : List Rest) → length (all_seen xs) ≡ length xs
length-all_seen [] = refl
length-all_seen (x ∷ xs) = ap suc (length-all_seen xs)

pub all_seen-drop : (k : ℕ) (xs : List Rest) → all_seen (drop k xs) ≡ drop k (all_seen xs)
all_seen-drop zero xs = refl
all_seen-drop (suc k) [] = refl
all_seen-drop (suc k) (x ∷ xs) = all_seen-drop k xs

pub below_cut : (path name rest : List ℕ) (r : Option (Bor (List ℕ))) → path ≡ name ++ rest → MatchOption r ((x : List ℕ) → rest ≡ slash ∷ x → ⊥) (λ x. rest ≡ slash ∷ x.now)
    → MatchOption r ((x : List ℕ) → path ≡ name ++ slash ∷ x → ⊥) (λ x. path ≡ name ++ slash ∷ x.now)
below_cut path name rest None cut h = λ x e. h x (append_cancel_left name rest (slash ∷ x) (sym cut ∙ e))
below_cut path name rest (Some y) cut h = cut ∙ ap (λ (z : List ℕ). name ++ z) h

abbrev is_slash : ℕ → Bool
is_slash b = b == slash

pub single : (path : List ℕ) → position_or_len is_slash path ≡ length path → IsSingle path
single path h = list_any_none is_slash path (λ k d lt. fails_before_first is_slash path k d (omega (arith, h, lt)))

front_single : (path : List ℕ) → position_or_len is_slash path < length path → IsSingle (take (position_or_len is_slash path) path)
front_single path lt =
    let n = position_or_len is_slash path in
    let size = length-take-le n path (omega arith) in
    list_any_none is_slash (take n path) (λ k d low. let inside : k < n = omega (arith, size, low) in ap is_slash (get_or-take n path k d inside) ∙ fails_before_first is_slash path k d inside)

first_place : (path : List ℕ) → position_or_len is_slash path < length path → position is_slash path ≡ Some (position_or_len is_slash path)
first_place path lt = grind (arith, lt)

first_parts : (path name rest : List ℕ) → position_or_len is_slash path < length path → name ≡ before_first is_slash path → rest ≡ after_first is_slash path → IsSingle name × (path ≡ name ++ slash ∷ rest)
first_parts path name rest lt front back =
    let hit = (position-Some is_slash path (position_or_len is_slash path) 0 (first_place path lt)).1 in
    let at = eqb-true (get_or path (position_or_len is_slash path) 0) slash hit in
    let cut = split_at_first is_slash path 0 lt in (
      subst (λ (z : List ℕ). IsSingle z) (sym front) (front_single path lt),
      cut ∙ ap (λ (n : ℕ). before_first is_slash path ++ n ∷ after_first is_slash path) at ∙ (λ i. sym front i ++ slash ∷ sym back i),
    )

-- what `split_once` gives
pub cut_first : (path : List ℕ) (r : Option (Bor (List ℕ) × Bor (List ℕ)))
    → MatchOption r (position_or_len is_slash path ≡ length path) (λ x. (position_or_len is_slash path < length path) × (x.0.now ≡ before_first is_slash path) × (x.1.now ≡ after_first is_slash path))
    → MatchOption r (IsSingle path) (λ parts. IsSingle parts.0.now × (path ≡ parts.0.now ++ slash ∷ parts.1.now))
cut_first path None h = single path h
cut_first path (Some x) h = first_parts path x.0.now x.1.now h.0 h.1 h.2

pub group_ends : (rests : List Rest) (i : ℕ) (d : Rest) (name : List ℕ) (part : List Entry) → i < length rests → all_seen (take i rests) ≡ all_below (name ++ slash ∷ []) part
    → ((rest : List ℕ) → (get_or rests i d).path.now ≡ name ++ slash ∷ rest → ⊥) → IsGroup name (all_seen rests) part
group_ends rests i d name part lt so_far none =
    let cut : drop i rests ≡ get_or rests i d ∷ drop (suc i) rests = drop-cons rests i d lt in
    let after : all_seen (drop i rests) ≡ seen (get_or rests i d) ∷ all_seen (drop (suc i) rests) = ap all_seen cut in
    record {
      after = all_seen (drop i rests);
      split = ap all_seen (sym (take-append-drop i rests)) ∙ all_seen-append (take i rests) (drop i rests) ∙ ap (λ (z : List Entry). z ++ all_seen (drop i rests)) so_far;
      ends = subst (λ (z : List Entry). LeavesDir name z) (sym after) none;
    }

pub leaf_first : (rests : List Rest) (d : Rest) (entries : List TreeEntry) (objects : List NewObject) → 0 < length rests → IsSingle (get_or rests 0 d).path.now
    → BuildsNext (all_seen rests) 1 entries (entries ++ leaf_entry (get_or rests 0 d).path.now (get_or rests 0 d).leaf ∷ []) objects objects
leaf_first [] d entries objects some single = absurd (omega arith)
leaf_first (x ∷ rests) d entries objects some single = leaf_next (seen x) (all_seen rests) entries objects single

pub some_in : (rests : List Rest) (d : Rest) (name rest : List ℕ) (part : List Entry) → 0 < length rests → (get_or rests 0 d).path.now ≡ name ++ slash ∷ rest → IsGroup name (all_seen rests) part → 0 < length part
some_in [] d name rest part some e group = absurd (omega arith)
some_in (x ∷ rests) d name rest part some e group = group_some name rest (seen x) (all_seen rests) part e group

pub rest_left : (k : ℕ) (xs : List Rest) → all_seen (take (length xs - k) (drop k xs)) ≡ drop k (all_seen xs)
rest_left k xs = ap all_seen (whole k xs) ∙ all_seen-drop k xs
  where
    whole : (k : ℕ) (xs : List Rest) → take (length xs - k) (drop k xs) ≡ drop k xs
    whole k xs = grind (arith, common_steps)

pub none_left : (xs : List Rest) → (length xs == 0) ≡ true → all_seen xs ≡ []
none_left [] h = refl
none_left (x ∷ xs) h = absurd (grind (arith, h))

pub if_ok : {A E : Type 0} (r : Result A E) (P Q : A → Type 0) → ((x : A) → P x → Q x) → IfOk r P → IfOk r Q
if_ok (Ok x) P Q w h = w x h
if_ok (Err e) P Q w h = h

pub left_weight : (list left : List Entry) (entries : List TreeEntry) (objects mid : List NewObject) → BuildsFront list left entries objects mid → weight left ≤ weight list
left_weight list left entries objects mid front = omega (arith, ap weight front.split, weight-append (paths_of front.dir) left)

pub some_left : (xs : List Rest) → (length xs == 0) ≡ false → 0 < length xs
some_left [] h = absurd (cc h)
some_left (x ∷ xs) h = omega arith

-- ---- what is left is a list of paths, and a whole directory has a tree
pub left_list : (list left : List Entry) (entries : List TreeEntry) (objects mid : List NewObject) → BuildsFront list left entries objects mid → IsPathList list → IsPathList left
left_list list left entries objects mid front h = back_list (paths_of front.dir) left (subst IsPathList front.split h)

pub has_tree : (list : List Entry) (entries : List TreeEntry) (objects mid : List NewObject) → BuildsFront list [] entries objects mid → IsPathList list → is_tree entries ≡ true
has_tree list entries objects mid front h =
    let whole = subst IsPathList (front.split ∙ append-nil (paths_of front.dir)) h in
    ap is_tree front.spelled ∙ tree_of_paths front.dir [] front.dense front.grouped refl whole
