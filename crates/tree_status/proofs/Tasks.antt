-- The tasks of a directory's items.
use Rattle.std.proofs.Common.{◌≡◌, ◌⊎◌, inl, inr, ℕ, Bool, true, false, cond, ◌&&◌, ◌||◌, List, [], ◌∷◌, ◌++◌, fold, Option, Some, None, Result, Ok, Err, refl, sym, ap, ◌∙◌, subst, take, length, ◌-◌, append-nil, length-append, arith}
use Rattle.std.specs.Prelude.{◌==◌, bytes_eq, IsSome, is_some, IfOk, Vec, String, string_bytes}
use Rattle.std.specs.declared.alloc.Global.{Global}
use Rattle.std.specs.List.{AllByRecursion, list_all, list_any}
use Rattle.std.specs.List.Sorted.{IsStrictlySortedBy}
use Rattle.std.specs.Map.{lookup, keys_of}
use Rattle.std.specs.BTreeMap.{BTreeMap, IsOrdered, is_at, get_by_text}
use Rattle.std.specs.String.{string_cmp}
use Rattle.std.specs.declared.cmp.Ordering.TheVariants.{Less}
use Rattle.std.specs.Ordering.{nat_cmp, is_eq}
use Rattle.std.specs.Cmp.Lexicographic.{slice_cmp}
use Rattle.std.proofs.Math.Seq.{take-append_seam}
use Rattle.std.proofs.lemmas.Bool.{false≢true, false_from_ne_true}
use Rattle.std.proofs.lemmas.Map.Text.{is_eq-slice_cmp}
use Rattle.std.proofs.lemmas.Slice.Eq.{bytes_eq-Decides}
use Rattle.places.specs.All.{slash}
use Rattle.places.proofs.Texts.{and_both}
use Rattle.places.proofs.Standing.{same_truth}
use Rattle.file_store.specs.All.{or_next, names_in, is_item_name, as_items}
use Rattle.file_store.specs.declared.kinds.Kind.{Kind}
use Rattle.file_store.specs.declared.kinds.Item.{Item}
use Rattle.file_store.specs.declared.kinds.Kind.TheVariants.{Absent, File, Dir, Other}
use Rattle.tree_status.specs.Working.{is_own}
use Rattle.tree_status.proofs.Paths.{NameFacts, item_facts}
use Rattle.tree_status.specs.Tasks.{is_dir, with_task, kind_for, ArePlanned}

not_dir : (kind : Kind) → (kind ≡ Dir → ⊥) → is_dir kind ≡ false
not_dir Absent h = refl
not_dir File h = refl
not_dir Dir h = absurd (h refl)
not_dir Other h = refl

pub plan_item : (key : List ℕ) (before : Option Kind) (item : Item) → is_own item.name ≡ false → (item.kind ≡ Dir → ⊥) → cond (bytes_eq item.name key) (Some item.kind) before ≡ with_task key before item
plan_item key before item own no_dir = sym (λ i. cond (own i) before (cond (not_dir item.kind no_dir i && bytes_eq (item.name ++ slash ∷ []) key) (Some Dir) (cond (bytes_eq item.name key) (Some item.kind) before)))

pub plan_dir : (key : List ℕ) (before : Option Kind) (item : Item) → is_own item.name ≡ false → item.kind ≡ Dir
    → cond (bytes_eq (item.name ++ slash ∷ []) key) (Some Dir) (cond (bytes_eq item.name key) (Some item.kind) before) ≡ with_task key before item
plan_dir key before item own dir = sym (λ i. cond (own i) before (cond (is_dir (dir i) && bytes_eq (item.name ++ slash ∷ []) key) (Some Dir) (cond (bytes_eq item.name key) (Some item.kind) before)))

pub plan_once : (key bytes : List ℕ) (before after : Option Kind) (item : Item) → bytes ≡ item.name → is_own item.name ≡ false → (item.kind ≡ Dir → ⊥)
    → after ≡ cond (bytes_eq bytes key) (Some item.kind) before → after ≡ with_task key before item
plan_once key bytes before after item same own other is =
    is ∙ ap (λ (b : List ℕ). cond (bytes_eq b key) (Some item.kind) before) same ∙ plan_item key before item own other

pub plan_twice : (key bytes inside : List ℕ) (before mid after : Option Kind) (item : Item) → bytes ≡ item.name → inside ≡ item.name ++ slash ∷ [] → is_own item.name ≡ false → item.kind ≡ Dir
    → mid ≡ cond (bytes_eq bytes key) (Some item.kind) before → after ≡ cond (bytes_eq inside key) (Some Dir) mid → after ≡ with_task key before item
plan_twice key bytes inside before mid after item same deep own dir first second =
    second
    ∙ (λ i. cond (bytes_eq (deep i) key) (Some Dir) (first i))
    ∙ ap (λ (b : List ℕ). cond (bytes_eq (item.name ++ slash ∷ []) key) (Some Dir) (cond (bytes_eq b key) (Some item.kind) before)) same
    ∙ plan_dir key before item own dir

-- THE TASKS of a map
abbrev Tasks : Type 0
Tasks = List (String Global × Kind)

after_all : (k : String Global) (ks : Tasks) → AllByRecursion (λ y. string_cmp k y ≡ Less) (keys_of ks) → AllByRecursion (λ t. slice_cmp nat_cmp (string_bytes k) t ≡ Less) (names_in (as_items ks))
after_all k [] less = tt
after_all k (l ∷ ks) less = (less.0, after_all k ks less.1)

ascends : (ks : Tasks) → IsStrictlySortedBy string_cmp (keys_of ks) → IsStrictlySortedBy (slice_cmp nat_cmp) (names_in (as_items ks))
unfolding IsStrictlySortedBy
ascends [] sorted = tt
ascends (k ∷ ks) sorted = (after_all k.0 ks sorted.0, ascends ks sorted.1)

kind_lookup : (key : List ℕ) (ks : Tasks) → kind_for key (as_items ks) ≡ lookup (is_at (λ (k : String Global). slice_cmp nat_cmp key (string_bytes k))) ks
kind_lookup key [] = refl
kind_lookup key (k ∷ ks) = λ i. cond (sym (is_eq-slice_cmp key (string_bytes k.0)) i) (Some k.1) (kind_lookup key ks i)

pub are_planned : (items tasks : List Item) (map : BTreeMap (String Global) Kind) → ((key : List ℕ) → get_by_text map key ≡ fold (with_task key) None items) → tasks ≡ as_items map.entries → IsOrdered string_cmp map → ArePlanned items tasks
are_planned items tasks map kinds is ordered = record {
  kinds = λ key. ap (kind_for key) is ∙ kind_lookup key map.entries ∙ kinds key;
  ascending = subst (λ (l : List Item). IsStrictlySortedBy (slice_cmp nat_cmp) (names_in l)) (sym is) (ascends map.entries ordered);
}

pub planned_made : {E : Type 0} (r : Result (Vec Item Global) E) (items : List Item) (map : BTreeMap (String Global) Kind) → ((key : List ℕ) → get_by_text map key ≡ fold (with_task key) None items)
    → IfOk r (λ tasks. tasks.items ≡ as_items map.entries) → IfOk r (λ _. IsOrdered string_cmp map) → IfOk r (λ tasks. ArePlanned items tasks.items)
planned_made (Ok tasks) items map kinds is ordered = are_planned items tasks.items map kinds is ordered
planned_made (Err e) items map kinds is ordered = tt

-- WHAT IS PLANNED for a name
turned : (x y : List ℕ) → bytes_eq x y ≡ bytes_eq y x
turned x y = same_truth _ _ (λ h. (bytes_eq-Decides y x).1 (sym ((bytes_eq-Decides x y).0 h))) (λ h. (bytes_eq-Decides x y).1 (sym ((bytes_eq-Decides y x).0 h)))

-- names without slashes
abbrev pub AreItems : List Item → Type 0
AreItems [] = Unit {0}
AreItems (item ∷ items) = NameFacts item.name × AreItems items

pub are_items : (items : List Item) → list_all is_item_name (names_in items) ≡ true → AreItems items
are_items [] h = tt
are_items (item ∷ items) h = let p = and_both (is_item_name item.name) (list_all is_item_name (names_in items)) h in (item_facts item.name p.0, are_items items p.1)

any_slash : (n : List ℕ) → list_any (λ b. b == slash) (n ++ slash ∷ []) ≡ true
any_slash [] = refl
any_slash (x ∷ n) = ap (λ b. (x == slash) || b) (any_slash n) ∙ or_true (x == slash)
  where
    or_true : (b : Bool) → (b || true) ≡ true
    or_true true = refl
    or_true false = refl

-- a name is no name with a slash after it
pub no_inside : (n m : List ℕ) → list_any (λ b. b == slash) n ≡ false → bytes_eq (m ++ slash ∷ []) n ≡ false
no_inside n m whole = false_from_ne_true _ (λ h.
    false≢true (sym whole ∙ ap (list_any (λ b. b == slash)) (sym ((bytes_eq-Decides (m ++ slash ∷ []) n).0 h)) ∙ any_slash m))

-- the end of two texts cancels
pub same_front : (m n : List ℕ) → m ++ slash ∷ [] ≡ n ++ slash ∷ [] → m ≡ n
same_front m n e = sym (front_of_text m) ∙ ap (λ t. take (length t - 1) t) e ∙ front_of_text n
  where
    front_of_text : (t : List ℕ) → take (length (t ++ slash ∷ []) - 1) (t ++ slash ∷ []) ≡ t
    front_of_text t =
        let size : length (t ++ slash ∷ []) - 1 ≡ length t = omega (arith, length-append t (slash ∷ [])) in
        ap (λ i. take i (t ++ slash ∷ [])) size ∙ take-append_seam t (slash ∷ [])

pub inside_same : (m n : List ℕ) → bytes_eq (m ++ slash ∷ []) (n ++ slash ∷ []) ≡ bytes_eq m n
inside_same m n = same_truth _ _
    (λ h. (bytes_eq-Decides m n).1 (same_front m n ((bytes_eq-Decides (m ++ slash ∷ []) (n ++ slash ∷ [])).0 h)))
    (λ h. (bytes_eq-Decides (m ++ slash ∷ []) (n ++ slash ∷ [])).1 (ap (λ (z : List ℕ). z ++ slash ∷ []) ((bytes_eq-Decides m n).0 h)))

-- none of some names
none_kind : (n : List ℕ) (items : List Item) → AllByRecursion (λ k. slice_cmp nat_cmp n k ≡ Less) (names_in items) → kind_for n items ≡ None
none_kind n [] less = refl
none_kind n (item ∷ items) less =
    ap (λ b. cond b (Some item.kind) (kind_for n items)) (sym (is_eq-slice_cmp n item.name) ∙ ap is_eq less.0) ∙ none_kind n items less.1

module _ (n : List ℕ) (own : is_own n ≡ false) (whole : list_any (λ b. b == slash) n ≡ false) where
  own_step : (before : Option Kind) (item : Item) → with_task n before item ≡ cond (bytes_eq n item.name) (Some item.kind) before
  own_step before item = by (is_own item.name) refl
    where
      by : (b : Bool) → is_own item.name ≡ b → with_task n before item ≡ cond (bytes_eq n item.name) (Some item.kind) before
      by true e =
          let other : bytes_eq n item.name ≡ false = false_from_ne_true _ (λ h. false≢true (sym own ∙ ap is_own ((bytes_eq-Decides n item.name).0 h) ∙ e)) in
          ap (λ b. cond b before (cond (is_dir item.kind && bytes_eq (item.name ++ slash ∷ []) n) (Some Dir) (cond (bytes_eq item.name n) (Some item.kind) before))) e
          ∙ sym (ap (λ b. cond b (Some item.kind) before) other)
      by false e =
          (λ i. cond (e i) before (cond (is_dir item.kind && no_inside n item.name whole i) (Some Dir) (cond (turned item.name n i) (Some item.kind) before)))
          ∙ no_dir (is_dir item.kind)
        where
          no_dir : (d : Bool) → cond (d && false) (Some Dir) (cond (bytes_eq n item.name) (Some item.kind) before) ≡ cond (bytes_eq n item.name) (Some item.kind) before
          no_dir true = refl
          no_dir false = refl

  own_from : (items : List Item) (start : Option Kind) → IsStrictlySortedBy (slice_cmp nat_cmp) (names_in items) → (start ≡ None) ⊎ (kind_for n items ≡ None)
      → fold (with_task n) start items ≡ or_next (kind_for n items) start
  unfolding IsStrictlySortedBy
  own_from [] start sorted one = refl
  own_from (item ∷ items) start sorted one = by (λ none. own_from items (Some item.kind) sorted.1 (inr none)) (own_from items start sorted.1) (bytes_eq n item.name) refl
    where
      by : ((kind_for n items ≡ None) → fold (with_task n) (Some item.kind) items ≡ or_next (kind_for n items) (Some item.kind))
          → ((start ≡ None) ⊎ (kind_for n items ≡ None) → fold (with_task n) start items ≡ or_next (kind_for n items) start)
          → (b : Bool) → bytes_eq n item.name ≡ b → fold (with_task n) start (item ∷ items) ≡ or_next (kind_for n (item ∷ items)) start
      by with_it without true e =
          let none : kind_for n items ≡ None = ap (λ k. kind_for k items) ((bytes_eq-Decides n item.name).0 e) ∙ none_kind item.name items sorted.0 in
          ap (λ o. fold (with_task n) o items) (own_step start item ∙ ap (λ b. cond b (Some item.kind) start) e)
          ∙ with_it none
          ∙ ap (λ o. or_next o (Some item.kind)) none
          ∙ sym (ap (λ b. or_next (cond b (Some item.kind) (kind_for n items)) start) e)
      by with_it without false e =
          ap (λ o. fold (with_task n) o items) (own_step start item ∙ ap (λ b. cond b (Some item.kind) start) e)
          ∙ without (elim one [ inl no_start ↦ inl no_start | inr none ↦ inr (sym (ap (λ b. cond b (Some item.kind) (kind_for n items)) e) ∙ none) ])
          ∙ sym (ap (λ b. or_next (cond b (Some item.kind) (kind_for n items)) start) e)

or_none : (o : Option Kind) → or_next o None ≡ o
or_none None = refl
or_none (Some kind) = refl

-- an item's own task
pub task_own : (n : List ℕ) (items : List Item) → is_own n ≡ false → list_any (λ b. b == slash) n ≡ false → IsStrictlySortedBy (slice_cmp nat_cmp) (names_in items) → fold (with_task n) None items ≡ kind_for n items
task_own n items own whole sorted = own_from n own whole items None sorted (inl refl) ∙ or_none (kind_for n items)

-- the task of what lies in a directory, once it is planned
dir_stays : (n : List ℕ) (items : List Item) (start : Option Kind) → AreItems items → start ≡ Some Dir → fold (with_task (n ++ slash ∷ [])) start items ≡ Some Dir
dir_stays n [] start are is = is
dir_stays n (item ∷ items) start are is = dir_stays n items (with_task (n ++ slash ∷ []) start item) are.1 (by (is_own item.name) (is_dir item.kind) (bytes_eq (item.name ++ slash ∷ []) (n ++ slash ∷ [])) (bytes_eq item.name (n ++ slash ∷ [])) (turned item.name (n ++ slash ∷ []) ∙ no_inside item.name n are.0.whole))
  where
    by : (own dir inside same : Bool) → same ≡ false → cond own start (cond (dir && inside) (Some Dir) (cond same (Some item.kind) start)) ≡ Some Dir
    by true dir inside same e = is
    by false true true same e = refl
    by false true false true e = absurd (cc e)
    by false true false false e = is
    by false false inside true e = absurd (cc e)
    by false false inside false e = is

pub some_kind : (a b : Kind) → Some a ≡ Some b → a ≡ b
some_kind a b e = cc e

pub task_inside : (n : List ℕ) (items : List Item) (start : Option Kind) → is_own n ≡ false → AreItems items → kind_for n items ≡ Some Dir → fold (with_task (n ++ slash ∷ [])) start items ≡ Some Dir
task_inside n [] start own are found = absurd (cc found)
task_inside n (item ∷ items) start own are found = by (λ rest. task_inside n items (with_task (n ++ slash ∷ []) start item) own are.1 rest) (bytes_eq n item.name) refl
  where
    by : (kind_for n items ≡ Some Dir → fold (with_task (n ++ slash ∷ [])) (with_task (n ++ slash ∷ []) start item) items ≡ Some Dir) → (b : Bool) → bytes_eq n item.name ≡ b → fold (with_task (n ++ slash ∷ [])) start (item ∷ items) ≡ Some Dir
    by later true e =
        let name : n ≡ item.name = (bytes_eq-Decides n item.name).0 e in
        let kind : Some item.kind ≡ Some Dir = sym (ap (λ b. cond b (Some item.kind) (kind_for n items)) e) ∙ found in
        let dir : is_dir item.kind ≡ true = ap is_dir (some_kind item.kind Dir kind) in
        dir_stays n items (with_task (n ++ slash ∷ []) start item) are.1
        (λ i. cond ((ap is_own (sym name) ∙ own) i) start (cond (dir i && (inside_same item.name n ∙ turned item.name n ∙ e) i) (Some Dir) (cond (bytes_eq item.name (n ++ slash ∷ [])) (Some item.kind) start)))
    by later false e = later (sym (ap (λ b. cond b (Some item.kind) (kind_for n items)) e) ∙ found)

-- WHAT A TASK IS
abbrev pub ending : Bool → List ℕ
ending true = slash ∷ []
ending false = []

pub record TaskFacts (key : List ℕ) : Type 0 where
  pub name : List ℕ
  pub inside : Bool
  pub is : key ≡ name ++ ending inside
  pub item : is_item_name name ≡ true
  pub own : is_own name ≡ false

pub task_from : (key : List ℕ) (items : List Item) (start : Option Kind) (kind : Kind) → list_all is_item_name (names_in items) ≡ true → (IsSome start → TaskFacts key) → fold (with_task key) start items ≡ Some kind → TaskFacts key
task_from key [] start kind are before found = before (ap is_some found)
task_from key (item ∷ items) start kind are before found =
    let p = and_both (is_item_name item.name) (list_all is_item_name (names_in items)) are in
    task_from key items (with_task key start item) kind p.1 (by (is_own item.name) refl (is_dir item.kind) (bytes_eq (item.name ++ slash ∷ []) key) refl (bytes_eq item.name key) refl p.0) found
  where
    by : (own : Bool) → is_own item.name ≡ own → (dir inside : Bool) → bytes_eq (item.name ++ slash ∷ []) key ≡ inside → (same : Bool) → bytes_eq item.name key ≡ same → is_item_name item.name ≡ true
        → IsSome (cond own start (cond (dir && inside) (Some Dir) (cond same (Some item.kind) start))) → TaskFacts key
    by true o dir inside d same s name some = before some
    by false o true true d same s name some = record { name = item.name; inside = true; is = sym ((bytes_eq-Decides (item.name ++ slash ∷ []) key).0 d); item = name; own = o }
    by false o true false d true s name some = record { name = item.name; inside = false; is = sym ((bytes_eq-Decides item.name key).0 s) ∙ sym (append-nil item.name); item = name; own = o }
    by false o true false d false s name some = before some
    by false o false inside d true s name some = record { name = item.name; inside = false; is = sym ((bytes_eq-Decides item.name key).0 s) ∙ sym (append-nil item.name); item = name; own = o }
    by false o false inside d false s name some = before some
