-- The tasks of a listed directory are what stands in it, and cover all that lies in it.
use Rattle.std.proofs.Common.{◌≡◌, ◌⊎◌, inl, inr, ℕ, Bool, true, false, cond, not, ◌&&◌, ◌||◌, List, [], ◌∷◌, ◌++◌, fold, Some, None, refl, sym, ap, ◌∙◌, subst, append_assoc, append-nil}
use Rattle.std.specs.Prelude.{bytes_eq, IsSome}
use Rattle.std.specs.List.{AllByRecursion, list_any, list_all}
use Rattle.std.specs.FinMap.{entries, get}
use Rattle.std.proofs.lemmas.Bool.{false_from_ne_true}
use Rattle.std.proofs.lemmas.Slice.Eq.{bytes_eq-Decides}
use Rattle.places.specs.All.{Names, slash, names_of, path_of, pieces, text_of, is_text, is_above}
use Rattle.places.specs.All.{all_but_last, IsAbove, Ground, file_at, stands, stands_below, IsGround}
use Rattle.places.proofs.Texts.{and_both, not_true}
use Rattle.places.proofs.Grammar.{or_either}
use Rattle.places.proofs.Above.{is_above-sound, is_above-more, is_above-over}
use Rattle.places.proofs.Standing.{same_truth, stands_below-by, stands_below-file}
use Rattle.file_store.specs.All.{kind_at, is_item_name, listed_kind, AreListed, IsListing}
use Rattle.file_store.specs.declared.kinds.Kind.{Kind}
use Rattle.file_store.specs.declared.kinds.Item.{Item}
use Rattle.file_store.specs.declared.kinds.Kind.TheVariants.{Absent, File, Dir}
use Rattle.tree_status.specs.Working.{ItemKind, is_own, is_working, is_met, items, item_at}
use Rattle.tree_status.specs.Tasks.{with_task, kind_for, ArePlanned}
use Rattle.tree_status.specs.Walks.{front_of, IsAt, is_within, within, is_front, IsPlanned}
use Rattle.tree_status.specs.Walks.{IsPlannedBy}
use Rattle.tree_status.proofs.Paths.{NameFacts, item_facts, working_facts, names_whole, last_of_more}
use Rattle.tree_status.proofs.Sorted.{filter_same}
use Rattle.tree_status.proofs.Tasks.{ending, TaskFacts, task_own, task_inside, are_items}
use Rattle.tree_status.proofs.Fronts.{name_no_front, inside_front}
use Rattle.tree_status.proofs.Items.{IsMet, IsFound, each_item, whole_of, pieces_of, item_is}
use Rattle.tree_status.proofs.Parts.{key_test, parts, each_facts, each_kind, any_task, any_more, listed_of, listed_some, own_path, inside_path, own_names, inside_names, segments}

works_at : (d : Names) (n : List ℕ) (ns : Names) → list_all is_working (d ++ n ∷ ns) ≡ true → is_working n ≡ true
works_at [] n ns h = (and_both (is_working n) (list_all is_working ns) h).0
works_at (m ∷ d) n ns h = works_at d n ns (and_both (is_working m) (list_all is_working (d ++ n ∷ ns)) h).1

pub works_more : (d : Names) (n : List ℕ) → list_all is_working d ≡ true → is_working n ≡ true → list_all is_working (d ++ n ∷ []) ≡ true
works_more [] n h k = λ i. k i && true
works_more (m ∷ d) n h k = let p = and_both (is_working m) (list_all is_working d) h in λ i. p.0 i && works_more d n p.1 k i

pub works_of : (n : List ℕ) → is_item_name n ≡ true → is_own n ≡ false → is_working n ≡ true
works_of n item own = λ i. item i && not (own i)

not_absent : (file below : Bool) → (file || below) ≡ true → cond file File (cond below Dir Absent) ≡ Absent → ⊥
not_absent true below h e = absurd (cc e)
not_absent false true h e = absurd (cc e)
not_absent false false h e = absurd (cc h)

some_more : (d : Names) (n : List ℕ) → (m : List ℕ) × (ms : Names) × (d ++ n ∷ [] ≡ m ∷ ms)
some_more [] n = (n, [], refl)
some_more (m ∷ d) n = (m, d ++ n ∷ [], refl)

item_of_names : (root : Names) (g : Ground) (names : Names) → (m : List ℕ) × (ms : Names) × (names ≡ m ∷ ms) → is_met root names ≡ true → get (items root g) (path_of names) ≡ item_at g (root ++ names)
item_of_names root g names (m, ms, is) met =
    ap (λ (z : Names). get (items root g) (path_of z)) is
    ∙ item_is root g m ms (ap (is_met root) (sym is) ∙ met)
    ∙ ap (λ (z : Names). item_at g (root ++ z)) (sym is)

-- what a listed and planned directory is
pub record Listed (root : Names) (g : Ground) (place : Names) (front : List ℕ) (items tasks : List Item) : Type 0 where
  pub at : IsAt root place front
  pub ground : IsGround g
  pub listed : AreListed items
  pub listing : IsListing g place items
  pub planned : ArePlanned items tasks

module _ (root : Names) (g : Ground) (place : Names) (front : List ℕ) (all tasks : List Item) (l : Listed root g place front all tasks) where
  abbrev d : Names
  d = names_of front

  facts : AllByRecursion (λ task. TaskFacts task.name) tasks
  facts = each_facts all tasks l.listed.names l.planned

  deeper : (n : List ℕ) → root ++ (d ++ n ∷ []) ≡ place ++ n ∷ []
  deeper n = sym (append_assoc root d (n ∷ [])) ∙ ap (λ (z : Names). z ++ n ∷ []) (sym l.at.1)

  -- A TASK of the plan
  met_own : (n : List ℕ) → is_working n ≡ true → is_met root (d ++ n ∷ []) ≡ true
  met_own n works =
      λ i. works_more d n l.at.0.1 works i
      && (ap (λ (z : Names). is_text (text_of (root ++ z))) (last_of_more d n [] ∙ append-nil d) ∙ ap (λ (z : Names). is_text (text_of z)) (sym l.at.1) ∙ l.at.2) i

  is_planned : (key : List ℕ) (kind : Kind) → TaskFacts key → kind_for key tasks ≡ Some kind → IsPlanned root g (front ++ key) kind
  is_planned key kind t found = by t.inside t.is
    where
      name : NameFacts t.name
      name = item_facts t.name t.item

      by : (deep : Bool) → key ≡ t.name ++ ending deep → IsPlanned root g (front ++ key) kind
      by true e =
          let is : front ++ key ≡ front ++ (t.name ++ slash ∷ []) = ap (λ (k : List ℕ). front ++ k) e in
          let names : names_of (front ++ key) ≡ d ++ t.name ∷ [] = ap names_of is ∙ inside_names root g place front l.at t.name name in
          subst (λ b. IsPlannedBy b root g (front ++ key) kind) (sym (ap is_front is ∙ inside_front front t.name)) (
            is ∙ inside_path root g place front l.at t.name ∙ ap front_of (sym names),
            ap (list_all is_working) names ∙ works_more d t.name l.at.0.1 (works_of t.name t.item t.own),
          )
      by false e =
          let is : front ++ key ≡ front ++ t.name = ap (λ (k : List ℕ). front ++ k) (e ∙ append-nil t.name) in
          let names : names_of (front ++ key) ≡ d ++ t.name ∷ [] = ap names_of is ∙ own_names root g place front l.at t.name name in
          let own : kind_for t.name all ≡ Some kind = sym (task_own t.name all t.own name.whole l.listed.ascending) ∙ ap (λ (k : List ℕ). fold (with_task k) None all) (sym (e ∙ append-nil t.name)) ∙ sym (l.planned.kinds key) ∙ found in
          subst (λ b. IsPlannedBy b root g (front ++ key) kind) (sym (ap is_front is ∙ name_no_front front t.name name)) (
            sym (listed_of t.name kind all own) ∙ l.listing t.name ∙ ap (kind_at g) (sym (deeper t.name)) ∙ ap (λ (z : Names). kind_at g (root ++ z)) (sym names),
            ap (get (items root g)) (is ∙ own_path root g place front l.at t.name)
                ∙ item_of_names root g (d ++ t.name ∷ []) (some_more d t.name) (met_own t.name (works_of t.name t.item t.own))
                ∙ ap (λ (z : Names). item_at g (root ++ z)) (sym names),
          )

  both : (ts : List Item) → AllByRecursion (λ task. TaskFacts task.name) ts → AllByRecursion (λ task. kind_for task.name tasks ≡ Some task.kind) ts → AllByRecursion (λ task. IsPlanned root g (front ++ task.name) task.kind) ts
  both [] f k = tt
  both (task ∷ ts) f k = (is_planned task.name task.kind f.0 k.0, both ts f.1 k.1)

  pub each_planned : AllByRecursion (λ task. IsPlanned root g (front ++ task.name) task.kind) tasks
  each_planned = both tasks facts (each_kind tasks l.planned.ascending)

  -- COVERING
  has_task : (n : List ℕ) (path : List ℕ) → is_working n ≡ true → path ≡ front ++ n → (kind_at g (place ++ n ∷ []) ≡ Absent → ⊥) → list_any (λ task. key_test (front ++ task.name) path) tasks ≡ true
  has_task n path works is there =
      let own : is_own n ≡ false = not_true (is_own n) (and_both (is_item_name n) (not (is_own n)) works).1 in
      let name = working_facts n works in
      let kind = listed_some n all (λ absent. there (sym (l.listing n) ∙ absent)) in
      let planned : kind_for n tasks ≡ Some (listed_kind n all) = l.planned.kinds n ∙ task_own n all own name.whole l.listed.ascending ∙ kind in
      any_more (λ task. bytes_eq n task.name) (λ task. key_test (front ++ task.name) path) tasks
      (λ task same.
      let key : n ≡ task.name = (bytes_eq-Decides n task.name).0 same in
      ap (λ (k : List ℕ). key_test (front ++ k) path) (sym key)
      ∙ ap (λ b. cond b (is_within (front ++ n) path) (bytes_eq (front ++ n) path)) (name_no_front front n name)
      ∙ (bytes_eq-Decides (front ++ n) path).1 (sym is))
      (any_task n (listed_kind n all) tasks planned)

  has_inside : (n : List ℕ) (path : List ℕ) (names : Names) (m : List ℕ) (ms : Names) → is_working n ≡ true → pieces path ≡ names → names ≡ (d ++ n ∷ []) ++ m ∷ ms → kind_at g (place ++ n ∷ []) ≡ Dir → list_any (λ task. key_test (front ++ task.name) path) tasks ≡ true
  has_inside n path names m ms works cut is dir =
      let own : is_own n ≡ false = not_true (is_own n) (and_both (is_item_name n) (not (is_own n)) works).1 in
      let name = working_facts n works in
      let there : listed_kind n all ≡ Dir = l.listing n ∙ dir in
      let kind = listed_some n all (λ absent. absurd (cc (there, absent))) in
      let inside : kind_for (n ++ slash ∷ []) tasks ≡ Some Dir = l.planned.kinds (n ++ slash ∷ []) ∙ task_inside n all None own (are_items all l.listed.names) (kind ∙ ap (λ k. Some k) there) in
      any_more (λ task. bytes_eq (n ++ slash ∷ []) task.name) (λ task. key_test (front ++ task.name) path) tasks
      (λ task same.
      let key : n ++ slash ∷ [] ≡ task.name = (bytes_eq-Decides (n ++ slash ∷ []) task.name).0 same in
      ap (λ (k : List ℕ). key_test (front ++ k) path) (sym key)
      ∙ ap (λ b. cond b (is_within (front ++ (n ++ slash ∷ [])) path) (bytes_eq (front ++ (n ++ slash ∷ [])) path)) (inside_front front n)
      ∙ (λ i. is_above (inside_names root g place front l.at n name i) ((cut ∙ is) i))
      ∙ is_above-more (d ++ n ∷ []) m ms)
      (any_task (n ++ slash ∷ []) Dir tasks inside)

  dir_there : (n : List ℕ) (m : List ℕ) (ms names : Names) → IsMet root g names → names ≡ (d ++ n ∷ []) ++ m ∷ ms → kind_at g (place ++ n ∷ []) ≡ Dir
  dir_there n m ms names met is =
      let above : root ++ names ≡ (place ++ n ∷ []) ++ m ∷ ms = ap (λ (z : Names). root ++ z) is ∙ sym (append_assoc root (d ++ n ∷ []) (m ∷ ms)) ∙ ap (λ (z : Names). z ++ m ∷ ms) (deeper n) in
      let file = below_it above (or_either (stands g (root ++ names)) (stands_below g (root ++ names)) met.there) in
      let none : stands g (place ++ n ∷ []) ≡ false = false_from_ne_true _ (λ h. l.ground (place ++ n ∷ []) file.0 h file.1 file.2) in
      let some : stands_below g (place ++ n ∷ []) ≡ true = stands_below-by g (place ++ n ∷ []) file.0 file.1 file.2 in
      λ i. cond (none i) File (cond (some i) Dir Absent)
    where
      below_it : root ++ names ≡ (place ++ n ∷ []) ++ m ∷ ms → (stands g (root ++ names) ≡ true) ⊎ (stands_below g (root ++ names) ≡ true) → (q : Names) × IsSome (file_at g q) × IsAbove (place ++ n ∷ []) q
      below_it above (inl file) = (root ++ names, file, (m, ms, above))
      below_it above (inr below) =
          let b = stands_below-file g (root ++ names) below in
          (b.0, b.1, (m, ms ++ b.2.0 ∷ b.2.1, b.2.2 ∙ ap (λ (z : Names). z ++ b.2.0 ∷ b.2.1) above ∙ append_assoc (place ++ n ∷ []) (m ∷ ms) (b.2.0 ∷ b.2.1)))

  covered : (path : List ℕ) (kind : ItemKind) → IsFound root g path kind → is_within front path ≡ true → list_any (λ task. key_test (front ++ task.name) path) tasks ≡ true
  covered path kind found inside =
      let cut : pieces path ≡ found.names = ap pieces found.path_is ∙ pieces_of root g found.names found.met in
      let a = is_above-sound d found.names (ap (is_above d) (sym cut) ∙ inside) in
      by a.0 a.1 a.2 (works_at d a.0 a.1 (ap (list_all is_working) (sym a.2) ∙ (and_both (list_all is_working found.names) (is_text (text_of (root ++ all_but_last found.names))) found.met.met).0)) cut
    where
      by : (n : List ℕ) (ns : Names) → found.names ≡ d ++ n ∷ ns → is_working n ≡ true → pieces path ≡ found.names → list_any (λ task. key_test (front ++ task.name) path) tasks ≡ true
      by n [] is works cut =
          has_task n path works (found.path_is ∙ ap path_of is ∙ sym (own_path root g place front l.at n))
          (λ absent. not_absent (stands g (place ++ n ∷ [])) (stands_below g (place ++ n ∷ [])) (ap (λ (z : Names). stands g z || stands_below g z) (sym (deeper n) ∙ ap (λ (z : Names). root ++ z) (sym is)) ∙ found.met.there) absent)
      by n (m ∷ ms) is works cut =
          let deep : found.names ≡ (d ++ n ∷ []) ++ m ∷ ms = is ∙ sym (append_assoc d (n ∷ []) (m ∷ ms)) in
          has_inside n path found.names m ms works cut deep (dir_there n m ms found.names found.met deep)

  inside_of : (key path : List ℕ) (kind : ItemKind) → TaskFacts key → IsFound root g path kind → key_test (front ++ key) path ≡ true → is_within front path ≡ true
  inside_of key path kind t found test = by t.inside t.is (ap pieces found.path_is ∙ pieces_of root g found.names found.met)
    where
      name : NameFacts t.name
      name = item_facts t.name t.item

      by : (deep : Bool) → key ≡ t.name ++ ending deep → pieces path ≡ found.names → is_within front path ≡ true
      by true e cut =
          let is : front ++ key ≡ front ++ (t.name ++ slash ∷ []) = ap (λ (k : List ℕ). front ++ k) e in
          is_above-over d (d ++ t.name ∷ []) (pieces path) (is_above-more d t.name [])
          (ap (λ (z : Names). is_above z (pieces path)) (sym (ap names_of is ∙ inside_names root g place front l.at t.name name))
          ∙ sym (ap (λ b. cond b (is_within (front ++ key) path) (bytes_eq (front ++ key) path)) (ap is_front is ∙ inside_front front t.name)) ∙ test)
      by false e cut =
          let is : front ++ key ≡ front ++ t.name = ap (λ (k : List ℕ). front ++ k) (e ∙ append-nil t.name) in
          let same : front ++ key ≡ path = (bytes_eq-Decides (front ++ key) path).0 (sym (ap (λ b. cond b (is_within (front ++ key) path) (bytes_eq (front ++ key) path)) (ap is_front is ∙ name_no_front front t.name name)) ∙ test) in
          let names : found.names ≡ d ++ t.name ∷ [] =
          sym (names_whole found.names (whole_of root g found.names found.met)) ∙ ap names_of (sym found.path_is ∙ sym same ∙ is) ∙ own_names root g place front l.at t.name name in
          ap (is_above d) (cut ∙ names) ∙ is_above-more d t.name []

  inside_any : (ts : List Item) → AllByRecursion (λ task. TaskFacts task.name) ts → (path : List ℕ) (kind : ItemKind) → IsFound root g path kind → list_any (λ task. key_test (front ++ task.name) path) ts ≡ true → is_within front path ≡ true
  inside_any [] f path kind found h = absurd (cc h)
  inside_any (task ∷ ts) f path kind found h = elim (or_either (key_test (front ++ task.name) path) (list_any (λ task. key_test (front ++ task.name) path) ts) h) [
    | inl here ↦ inside_of task.name path kind f.0 found here
    | inr there ↦ inside_any ts f.1 path kind found there
  ]

  -- ALL OF IT
  pub parts_are : parts front tasks (items root g) ≡ within front (items root g)
  unfolding within
  parts_are =
      segments root g place front l.at tasks facts l.planned.ascending
      ∙ filter_same (λ e. IsFound root g e.0 e.1) (λ e. list_any (λ task. key_test (front ++ task.name) e.0) tasks) (λ e. is_within front e.0) (entries (items root g)) (each_item root g)
      (λ e found. same_truth _ _ (inside_any tasks facts e.0 e.1 found) (covered e.0 e.1 found))
