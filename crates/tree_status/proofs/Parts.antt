-- What the tasks of a directory pick is all that lies in it.
use Rattle.std.proofs.Common.{◌≡◌, inl, inr, ℕ, Bool, true, false, cond, ◌||◌, List, [], ◌∷◌, ◌++◌, Some, None, refl, sym, ap, ◌∙◌, append_assoc, append-nil}
use Rattle.std.specs.Prelude.{bytes_eq}
use Rattle.std.specs.List.{AllByRecursion, filter, flat_map, list_any, list_all}
use Rattle.std.specs.List.Sorted.{IsStrictlySortedBy}
use Rattle.std.specs.FinMap.{IsAntisymmetric, entries, entries_sorted, get, get-entries, find}
use Rattle.std.specs.FinMap.{is_sorted, slice_cmp-IsAntisymmetric, nat_cmp-IsAntisymmetric}
use Rattle.std.specs.FinMap.Entries.{below_all}
use Rattle.std.specs.declared.cmp.Ordering.TheVariants.{Less, Equal, Greater}
use Rattle.std.specs.declared.cmp.Ordering.{Ordering}
use Rattle.std.specs.Ordering.{nat_cmp, is_eq, is_lt}
use Rattle.std.specs.Cmp.Lexicographic.{slice_cmp}
use Rattle.std.proofs.lemmas.Bool.{false≢true, false_from_ne_true}
use Rattle.std.proofs.lemmas.Cmp.{nat_list_cmp_total}
use Rattle.std.proofs.lemmas.Map.Text.{is_eq-slice_cmp}
use Rattle.std.proofs.lemmas.Slice.Eq.{bytes_eq-Decides}
use Rattle.places.specs.All.{Names, slash, names_of, path_of, pieces, is_above, Ground}
use Rattle.places.proofs.Texts.{and_both}
use Rattle.places.proofs.Grammar.{or_either, or_left, or_right}
use Rattle.places.proofs.Ascend.{cmp-front}
use Rattle.places.proofs.Above.{is_above-sound}
use Rattle.file_store.specs.All.{is_item_name, names_in, listed_kind}
use Rattle.file_store.specs.declared.kinds.Kind.{Kind}
use Rattle.file_store.specs.declared.kinds.Item.{Item}
use Rattle.file_store.specs.declared.kinds.Kind.TheVariants.{Absent}
use Rattle.tree_status.specs.Working.{ItemKind, Items, is_working, items}
use Rattle.tree_status.specs.Tasks.{kind_for, ArePlanned}
use Rattle.tree_status.specs.Walks.{one_of, front_of, IsAt, is_within, within, is_front, part}
use Rattle.tree_status.proofs.Paths.{NameFacts, item_facts, AreWhole, working_whole, whole_append, names_whole, names_front, path_in, path_name, front_more}
use Rattle.tree_status.proofs.Sorted.{true_of, filter_none, split_filter}
use Rattle.tree_status.proofs.Tasks.{ending, TaskFacts, task_from, some_kind}
use Rattle.tree_status.proofs.Fronts.{name_no_front, inside_front, key_less}
use Rattle.tree_status.proofs.Items.{IsFound, each_item, pieces_of}

bytes_same : IsAntisymmetric (slice_cmp nat_cmp)
bytes_same = slice_cmp-IsAntisymmetric nat_cmp-IsAntisymmetric

-- PARTS
abbrev pub key_test : List ℕ → List ℕ → Bool
key_test path at = cond (is_front path) (is_within path at) (bytes_eq path at)

pub part_is : (path : List ℕ) (all : Items) → part path all ≡ filter (λ e. key_test path e.0) (entries all)
unfolding part within
part_is path all = by (is_front path)
  where
    by : (b : Bool) → cond b (filter (λ e. is_within path e.0) (entries all)) (filter (λ e. bytes_eq path e.0) (entries all)) ≡ filter (λ e. cond b (is_within path e.0) (bytes_eq path e.0)) (entries all)
    by true = refl
    by false = refl

pub part_inside : (path : List ℕ) (all : Items) → is_front path ≡ true → part path all ≡ within path all
unfolding part
part_inside path all h = ap (λ b. cond b (within path all) (filter (λ e. bytes_eq path e.0) (entries all))) h

-- the entry at one key
lt_eq : (o : Ordering) → is_lt o ≡ true → is_eq o ≡ true → ⊥
lt_eq Less h k = absurd (cc k)
lt_eq Equal h k = absurd (cc h)
lt_eq Greater h k = absurd (cc h)

below_other : (key : List ℕ) (es : List (List ℕ × ItemKind)) → below_all (slice_cmp nat_cmp) key es ≡ true → filter (λ e. bytes_eq key e.0) es ≡ []
below_other key [] below = refl
below_other key (e ∷ es) below =
    let b = and_both (is_lt (slice_cmp nat_cmp key e.0)) (below_all (slice_cmp nat_cmp) key es) below in
    let differs : bytes_eq key e.0 ≡ false = false_from_ne_true _ (λ h. lt_eq (slice_cmp nat_cmp key e.0) b.0 (is_eq-slice_cmp key e.0 ∙ h)) in
    ap (λ b. cond b (e ∷ filter (λ e. bytes_eq key e.0) es) (filter (λ e. bytes_eq key e.0) es)) differs ∙ below_other key es b.1

picked : (path : List ℕ) (es : List (List ℕ × ItemKind)) → is_sorted (slice_cmp nat_cmp) es ≡ true → filter (λ e. bytes_eq path e.0) es ≡ one_of path (find (slice_cmp nat_cmp) path es)
picked path [] sorted = refl
picked path (e ∷ es) sorted =
    let s = and_both (below_all (slice_cmp nat_cmp) e.0 es) (is_sorted (slice_cmp nat_cmp) es) sorted in
    by (bytes_eq path e.0) refl s.0 (picked path es s.1)
  where
    by : (b : Bool) → bytes_eq path e.0 ≡ b → below_all (slice_cmp nat_cmp) e.0 es ≡ true → filter (λ e. bytes_eq path e.0) es ≡ one_of path (find (slice_cmp nat_cmp) path es)
        → filter (λ e. bytes_eq path e.0) (e ∷ es) ≡ one_of path (find (slice_cmp nat_cmp) path (e ∷ es))
    by true is below rest =
        let same : path ≡ e.0 = (bytes_eq-Decides path e.0).0 is in
        ap (λ b. cond b (e ∷ filter (λ e. bytes_eq path e.0) es) (filter (λ e. bytes_eq path e.0) es)) is
        ∙ ap (λ (l : List (List ℕ × ItemKind)). e ∷ l) (ap (λ (z : List ℕ). filter (λ e. bytes_eq z e.0) es) same ∙ below_other e.0 es below)
        ∙ ap (λ (z : List ℕ). (z, e.1) ∷ []) (sym same)
        ∙ sym (ap (λ b. one_of path (cond b (Some e.1) (find (slice_cmp nat_cmp) path es))) (is_eq-slice_cmp path e.0 ∙ is))
    by false is below rest =
        ap (λ b. cond b (e ∷ filter (λ e. bytes_eq path e.0) es) (filter (λ e. bytes_eq path e.0) es)) is
        ∙ rest
        ∙ sym (ap (λ b. one_of path (cond b (Some e.1) (find (slice_cmp nat_cmp) path es))) (is_eq-slice_cmp path e.0 ∙ is))

pub part_own : (path : List ℕ) (all : Items) → is_front path ≡ false → part path all ≡ one_of path (get all path)
unfolding part
part_own path all h =
    ap (λ b. cond b (within path all) (filter (λ e. bytes_eq path e.0) (entries all))) h
    ∙ picked path (entries all) (true_of _ (entries_sorted all))
    ∙ ap (one_of path) (sym (get-entries all path))

-- the parts of some tasks
abbrev pub parts : List ℕ → List Item → Items → List (List ℕ × ItemKind)
parts front tasks all = flat_map (λ task. part (front ++ task.name) all) tasks

-- TASKS with their facts
some_kind_for : (P : List ℕ → Type 0) (tasks : List Item) → ((key : List ℕ) (kind : Kind) → kind_for key tasks ≡ Some kind → P key) → AllByRecursion (λ task. P task.name) tasks
some_kind_for P [] f = tt
some_kind_for P (task ∷ tasks) f = (
  f task.name task.kind (ap (λ b. cond b (Some task.kind) (kind_for task.name tasks)) ((bytes_eq-Decides task.name task.name).1 refl)),
  some_kind_for P tasks (λ key kind e. by key kind e (bytes_eq key task.name) refl),
)
  where
    by : (key : List ℕ) (kind : Kind) → kind_for key tasks ≡ Some kind → (b : Bool) → bytes_eq key task.name ≡ b → P key
    by key kind e true is = f key task.kind (ap (λ b. cond b (Some task.kind) (kind_for key tasks)) is)
    by key kind e false is = f key kind (ap (λ b. cond b (Some task.kind) (kind_for key tasks)) is ∙ e)

pub each_facts : (items tasks : List Item) → list_all is_item_name (names_in items) ≡ true → ArePlanned items tasks → AllByRecursion (λ task. TaskFacts task.name) tasks
each_facts items tasks named planned = some_kind_for TaskFacts tasks (λ key kind e. task_from key items None kind named (λ some. absurd (cc some)) (sym (planned.kinds key) ∙ e))

-- the kind of each task is that of its key
pub each_kind : (tasks : List Item) → IsStrictlySortedBy (slice_cmp nat_cmp) (names_in tasks) → AllByRecursion (λ task. kind_for task.name tasks ≡ Some task.kind) tasks
unfolding IsStrictlySortedBy
each_kind [] sorted = tt
each_kind (task ∷ tasks) sorted = (
  ap (λ b. cond b (Some task.kind) (kind_for task.name tasks)) ((bytes_eq-Decides task.name task.name).1 refl),
  later tasks sorted.0 (each_kind tasks sorted.1),
)
  where
    later : (us : List Item) → AllByRecursion (λ k. slice_cmp nat_cmp task.name k ≡ Less) (names_in us) → AllByRecursion (λ u. kind_for u.name tasks ≡ Some u.kind) us → AllByRecursion (λ u. kind_for u.name (task ∷ tasks) ≡ Some u.kind) us
    later [] less each = tt
    later (u ∷ us) less each =
        let differs : bytes_eq u.name task.name ≡ false = false_from_ne_true _ (λ h.
        let e : slice_cmp nat_cmp task.name task.name ≡ Less = ap (slice_cmp nat_cmp task.name) (sym ((bytes_eq-Decides u.name task.name).0 h)) ∙ less.0 in
        false≢true (sym (ap is_eq e) ∙ is_eq-slice_cmp task.name task.name ∙ (bytes_eq-Decides task.name task.name).1 refl)) in
        (ap (λ b. cond b (Some task.kind) (kind_for u.name tasks)) differs ∙ each.0, later us less.1 each.1)

pub any_task : (key : List ℕ) (kind : Kind) (tasks : List Item) → kind_for key tasks ≡ Some kind → list_any (λ task. bytes_eq key task.name) tasks ≡ true
any_task key kind [] e = absurd (cc e)
any_task key kind (task ∷ tasks) e = by (bytes_eq key task.name) refl (any_task key kind tasks)
  where
    by : (b : Bool) → bytes_eq key task.name ≡ b → (kind_for key tasks ≡ Some kind → list_any (λ task. bytes_eq key task.name) tasks ≡ true) → (bytes_eq key task.name || list_any (λ task. bytes_eq key task.name) tasks) ≡ true
    by true is rest = or_left _ _ is
    by false is rest = or_right (bytes_eq key task.name) _ (rest (sym (ap (λ b. cond b (Some task.kind) (kind_for key tasks)) is) ∙ e))

pub any_more : {A : Type 0} (p q : A → Bool) (xs : List A) → ((x : A) → p x ≡ true → q x ≡ true) → list_any p xs ≡ true → list_any q xs ≡ true
any_more p q [] f h = absurd (cc h)
any_more p q (x ∷ xs) f h = elim (or_either (p x) (list_any p xs) h) [
  | inl here ↦ or_left (q x) _ (f x here)
  | inr there ↦ or_right (q x) _ (any_more p q xs f there)
]

-- A LISTING'S kinds
pub listed_of : (name : List ℕ) (kind : Kind) (items : List Item) → kind_for name items ≡ Some kind → listed_kind name items ≡ kind
listed_of name kind [] e = absurd (cc e)
listed_of name kind (item ∷ items) e = by (bytes_eq name item.name) (listed_of name kind items) e
  where
    by : (b : Bool) → (kind_for name items ≡ Some kind → listed_kind name items ≡ kind) → cond b (Some item.kind) (kind_for name items) ≡ Some kind → cond b item.kind (listed_kind name items) ≡ kind
    by true rest e = some_kind item.kind kind e
    by false rest e = rest e

pub listed_some : (name : List ℕ) (items : List Item) → (listed_kind name items ≡ Absent → ⊥) → kind_for name items ≡ Some (listed_kind name items)
listed_some name [] there = absurd (there refl)
listed_some name (item ∷ items) there = by (bytes_eq name item.name) (listed_some name items) there
  where
    by : (b : Bool) → ((listed_kind name items ≡ Absent → ⊥) → kind_for name items ≡ Some (listed_kind name items)) → (cond b item.kind (listed_kind name items) ≡ Absent → ⊥) → cond b (Some item.kind) (kind_for name items) ≡ Some (cond b item.kind (listed_kind name items))
    by true rest there = refl
    by false rest there = rest there

-- IN ONE DIRECTORY
module _ (root : Names) (g : Ground) (place : Names) (front : List ℕ) (at : IsAt root place front) where
  abbrev d : Names
  d = names_of front

  works : list_all is_working d ≡ true
  works = at.0.1

  whole_d : AreWhole d
  whole_d = working_whole d works

  pub own_path : (n : List ℕ) → front ++ n ≡ path_of (d ++ n ∷ [])
  own_path n = ap (λ (z : List ℕ). z ++ n) at.0.0 ∙ sym (path_name d n)

  pub inside_path : (n : List ℕ) → front ++ (n ++ slash ∷ []) ≡ front_of (d ++ n ∷ [])
  inside_path n = ap (λ (z : List ℕ). z ++ (n ++ slash ∷ [])) at.0.0 ∙ sym (front_more d n)

  whole_more : (n : List ℕ) → NameFacts n → AreWhole (d ++ n ∷ [])
  whole_more n h = whole_append d (n ∷ []) whole_d (h, tt)

  pub own_names : (n : List ℕ) → NameFacts n → names_of (front ++ n) ≡ d ++ n ∷ []
  own_names n h = ap names_of (own_path n) ∙ names_whole (d ++ n ∷ []) (whole_more n h)

  pub inside_names : (n : List ℕ) → NameFacts n → names_of (front ++ (n ++ slash ∷ [])) ≡ d ++ n ∷ []
  inside_names n h = ap names_of (inside_path n) ∙ names_front (d ++ n ∷ []) (whole_more n h)

  -- where a task reaches
  record Reach (key path : List ℕ) (deep : Bool) : Type 0 where
    rest : List ℕ
    is : path ≡ front ++ (key ++ rest)
    one : deep ≡ false → rest ≡ []

  reach : (key path : List ℕ) (kind : ItemKind) (t : TaskFacts key) → IsFound root g path kind → key_test (front ++ key) path ≡ true → Reach key path t.inside
  reach key path kind t found test = by t.inside refl t.is
    where
      facts : NameFacts t.name
      facts = item_facts t.name t.item

      by : (deep : Bool) → t.inside ≡ deep → key ≡ t.name ++ ending deep → Reach key path t.inside
      by true inside e =
          let within_it : is_above (d ++ t.name ∷ []) found.names ≡ true =
          (λ j. is_above (sym (ap (λ (k : List ℕ). names_of (front ++ k)) e ∙ inside_names t.name facts) j) (sym (ap pieces found.path_is ∙ pieces_of root g found.names found.met) j))
          ∙ sym (ap (λ b. cond b (is_within (front ++ key) path) (bytes_eq (front ++ key) path)) (ap (λ (k : List ℕ). is_front (front ++ k)) e ∙ inside_front front t.name))
          ∙ test in
          let a = is_above-sound (d ++ t.name ∷ []) found.names within_it in
          record {
            rest = path_of (a.0 ∷ a.1);
            is = found.path_is ∙ ap path_of a.2 ∙ path_in (d ++ t.name ∷ []) a.0 a.1
                ∙ ap (λ (z : List ℕ). z ++ path_of (a.0 ∷ a.1)) (sym (inside_path t.name) ∙ ap (λ (k : List ℕ). front ++ k) (sym e))
                ∙ append_assoc front key (path_of (a.0 ∷ a.1));
            one = λ no_deep. absurd (false≢true (sym no_deep ∙ inside));
          }
      by false inside e =
          let same : bytes_eq (front ++ key) path ≡ true =
          sym (ap (λ b. cond b (is_within (front ++ key) path) (bytes_eq (front ++ key) path)) (ap (λ (k : List ℕ). is_front (front ++ k)) (e ∙ append-nil t.name) ∙ name_no_front front t.name facts))
          ∙ test in
          record {
            rest = [];
            is = sym ((bytes_eq-Decides (front ++ key) path).0 same) ∙ ap (λ (k : List ℕ). front ++ k) (sym (append-nil key));
            one = λ _. refl;
          }

  before_one : (k l : List ℕ) → TaskFacts k → TaskFacts l → slice_cmp nat_cmp k l ≡ Less → (e f : List ℕ × ItemKind) → IsFound root g e.0 e.1 → IsFound root g f.0 f.1
      → key_test (front ++ k) e.0 ≡ true → key_test (front ++ l) f.0 ≡ true → slice_cmp nat_cmp e.0 f.0 ≡ Less
  before_one k l t u less e f p q first second =
      let r = reach k e.0 e.1 t p first in
      let s = reach l f.0 f.1 u q second in
      (λ i. slice_cmp nat_cmp (r.is i) (s.is i))
      ∙ cmp-front front (k ++ r.rest) (l ++ s.rest)
      ∙ (λ i. slice_cmp nat_cmp (t.is i ++ r.rest) (u.is i ++ s.rest))
      ∙ key_less t.name u.name t.inside u.inside r.rest s.rest (item_facts t.name t.item).whole (item_facts u.name u.item).whole r.one ((λ i. slice_cmp nat_cmp (sym t.is i) (sym u.is i)) ∙ less)

  before_any : (k : List ℕ) → TaskFacts k → (tasks : List Item) → AllByRecursion (λ task. TaskFacts task.name) tasks → AllByRecursion (λ l. slice_cmp nat_cmp k l ≡ Less) (names_in tasks) → (e f : List ℕ × ItemKind) → IsFound root g e.0 e.1 → IsFound root g f.0 f.1
      → key_test (front ++ k) e.0 ≡ true → list_any (λ task. key_test (front ++ task.name) f.0) tasks ≡ true → slice_cmp nat_cmp e.0 f.0 ≡ Less
  before_any k t [] facts less e f p q first second = absurd (cc second)
  before_any k t (task ∷ tasks) facts less e f p q first second = elim (or_either (key_test (front ++ task.name) f.0) (list_any (λ task. key_test (front ++ task.name) f.0) tasks) second) [
    | inl here ↦ before_one k task.name t facts.0 less.0 e f p q first here
    | inr there ↦ before_any k t tasks facts.1 less.1 e f p q first there
  ]

  pub segments : (tasks : List Item) → AllByRecursion (λ task. TaskFacts task.name) tasks → IsStrictlySortedBy (slice_cmp nat_cmp) (names_in tasks)
      → parts front tasks (items root g) ≡ filter (λ e. list_any (λ task. key_test (front ++ task.name) e.0) tasks) (entries (items root g))
  unfolding IsStrictlySortedBy
  segments [] facts sorted = sym (filter_none (λ e. IsFound root g e.0 e.1) (λ e. false) (entries (items root g)) (each_item root g) (λ e found. refl))
  segments (task ∷ tasks) facts sorted =
      (λ i. part_is (front ++ task.name) (items root g) i ++ segments tasks facts.1 sorted.1 i)
      ∙ sym (split_filter nat_list_cmp_total bytes_same (λ e. IsFound root g e.0 e.1) (λ e. key_test (front ++ task.name) e.0) (λ e. list_any (λ task. key_test (front ++ task.name) e.0) tasks)
      (entries (items root g)) (true_of _ (entries_sorted (items root g))) (each_item root g)
      (λ e f p q first second. before_any task.name facts.0 tasks facts.1 sorted.0 e f p q first second))
