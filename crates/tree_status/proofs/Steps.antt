-- The steps of a walk.
use Rattle.std.proofs.Common.{◌≡◌, ◌≤◌, ◌<◌, ◌+◌, ℕ, Bool, true, false, List, [], ◌∷◌, ◌++◌, length, map, Some, IsTrue, refl, sym, ap, ◌∙◌, subst, append_assoc, append-nil, arith, length-append}
use Rattle.std.specs.List.{AllByRecursion, list_all}
use Rattle.std.specs.FinMap.{entries}
use Rattle.std.proofs.lemmas.Bool.{false≢true, false_from_ne_true}
use Rattle.std.proofs.lemmas.List.Concat.{flat_map-append}
use Rattle.places.specs.All.{Names, slash, longest, names_of, path_of, pieces, slashed, text_of}
use Rattle.places.specs.All.{joined, is_text, is_above, all_but_last, Ground}
use Rattle.places.proofs.Texts.{and_both, pieces_some, SomeParts}
use Rattle.places.proofs.Above.{is_above-sound}
use Rattle.file_store.specs.All.{kind_at, is_item_name, names_in}
use Rattle.file_store.specs.declared.kinds.Kind.{Kind}
use Rattle.file_store.specs.declared.kinds.Item.{Item}
use Rattle.faults.specs.declared.faults.Fault.{Fault}
use Rattle.faults.specs.declared.faults.Fault.TheVariants.{OddKind, TooLarge, Dirty}
use Rattle.tree_status.specs.Working.{is_working, items, item_at, fault_along, walk_fault}
use Rattle.tree_status.specs.Working.{files_among, path_in}
use Rattle.tree_status.specs.Tasks.{ArePlanned, IsTask}
use Rattle.tree_status.specs.Walks.{one_of, front_of, IsFront, IsAt, is_within, within, is_front}
use Rattle.tree_status.specs.Walks.{part, IsPlanned, IsPlannedBy, Went, MayMeet, MayWalk}
use Rattle.tree_status.specs.Walks.{AreWorking}
use Rattle.tree_status.specs.declared.found.Found.{Found}
use Rattle.tree_status.proofs.Paths.{AreWhole, working_whole, front_path, joined_whole, last_of_more, place_left, text_short, names_of_nothing}
use Rattle.tree_status.proofs.Sorted.{filter_none, filter_all}
use Rattle.tree_status.proofs.Tasks.{TaskFacts, same_front}
use Rattle.tree_status.proofs.TaskPaths.{task_of}
use Rattle.tree_status.proofs.Fronts.{front_ends, no_front}
use Rattle.tree_status.proofs.Items.{IsFound, each_item, pieces_of}
use Rattle.tree_status.proofs.Parts.{part_own, part_inside, parts, each_facts}
use Rattle.tree_status.proofs.Along.{went_none, went_more, went_fails, never_dirty}
use Rattle.tree_status.proofs.Covers.{Listed, each_planned, parts_are}

left_of : (root names rest : Names) (n : List ℕ) (ns : Names) → names ≡ n ∷ ns → is_text (text_of ((root ++ names) ++ rest)) ≡ true → is_text (text_of (root ++ names)) ≡ true
left_of [] names rest n ns is h =
    ap (λ (z : Names). is_text (text_of z)) is ∙ place_left n ns rest (ap (λ (z : Names). is_text (text_of (z ++ rest))) (sym is) ∙ h)
left_of (r ∷ root) names rest n ns is h = place_left r (root ++ names) rest h

-- AN ITEM'S TASK
module _ (limits : List ℕ → ℕ) (root : Names) (g : Ground) (path : List ℕ) (kind : Kind) where
  own_planned : is_front path ≡ false → IsPlanned root g path kind → (kind ≡ kind_at g (root ++ names_of path)) × (part path (items root g) ≡ one_of path (item_at g (root ++ names_of path)))
  own_planned plain planned =
      let p = subst (λ b. IsPlannedBy b root g path kind) plain planned in
      (p.0, part_own path (items root g) plain ∙ ap (one_of path) p.1)

  pub own_went : (old new : Found) → ((front : List ℕ) → path ≡ front ++ slash ∷ [] → ⊥) → (kind ≡ kind_at g (root ++ names_of path) → Went limits root (one_of path (item_at g (root ++ names_of path))) old new)
      → IsPlanned root g path kind → Went limits root (part path (items root g)) old new
  own_went old new plain went planned =
      let p = own_planned (no_front path plain) planned in
      subst (λ l. Went limits root l old new) (sym p.1) (went p.0)

  pub own_fails : (count : ℕ) (fault : Fault) → ((front : List ℕ) → path ≡ front ++ slash ∷ [] → ⊥) → (kind ≡ kind_at g (root ++ names_of path) → fault_along limits root count (one_of path (item_at g (root ++ names_of path))) ≡ Some fault)
      → IsPlanned root g path kind → fault_along limits root count (part path (items root g)) ≡ Some fault
  own_fails count fault plain fails planned =
      let p = own_planned (no_front path plain) planned in
      ap (fault_along limits root count) p.1 ∙ fails p.0

  -- A DIRECTORY'S TASK
  ends_so : (directory : List ℕ) → path ≡ directory ++ slash ∷ [] → is_front path ≡ true
  ends_so directory is = ap is_front is ∙ front_ends directory

  front_planned : (directory : List ℕ) → path ≡ directory ++ slash ∷ [] → IsPlanned root g path kind → IsFront path
  front_planned directory is planned = subst (λ b. IsPlannedBy b root g path kind) (ends_so directory is) planned

  directory_is : (directory : List ℕ) → path ≡ directory ++ slash ∷ [] → IsFront path → (n : List ℕ) × (ns : Names) × (names_of path ≡ n ∷ ns) × (directory ≡ path_of (n ∷ ns)) × AreWhole (n ∷ ns)
  directory_is directory is front = by (names_of path) refl
    where
      by : (names : Names) → names_of path ≡ names → (n : List ℕ) × (ns : Names) × (names_of path ≡ n ∷ ns) × (directory ≡ path_of (n ∷ ns)) × AreWhole (n ∷ ns)
      by [] e =
          let nothing : directory ++ slash ∷ [] ≡ [] = sym is ∙ front.0 ∙ ap front_of e in
          absurd (omega (arith, ap length nothing, length-append directory (slash ∷ [])))
      by (n ∷ ns) e = (
        n,
        ns,
        e,
        same_front directory (path_of (n ∷ ns)) (sym is ∙ front.0 ∙ ap front_of e ∙ front_path n ns),
        working_whole (n ∷ ns) (ap (list_all is_working) (sym e) ∙ front.1),
      )

  -- the text of its place
  directory_text : (directory : List ℕ) → path ≡ directory ++ slash ∷ [] → IsFront path → joined root directory ≡ text_of (root ++ names_of path)
  directory_text directory is front =
      let d = directory_is directory is front in
      ap (joined root) d.3 ∙ joined_whole root d.0 d.1 d.4 ∙ ap (λ (z : Names). text_of (root ++ z)) (sym d.2)

  -- nothing lies in a directory that has no place
  none_inside : (directory : List ℕ) → path ≡ directory ++ slash ∷ [] → IsFront path → is_text (joined root directory) ≡ false → within path (items root g) ≡ []
  unfolding within
  none_inside directory is front text =
      filter_none (λ e. IsFound root g e.0 e.1) (λ e. is_within path e.0) (entries (items root g)) (each_item root g)
      (λ e found. false_from_ne_true _ (λ inside.
      let a = is_above-sound (names_of path) found.names (ap (is_above (names_of path)) (sym (pieces_of root g found.names found.met) ∙ ap pieces (sym found.path_is)) ∙ inside) in
      let placed = (and_both (list_all is_working found.names) (is_text (text_of (root ++ all_but_last found.names))) found.met.met).1 in
      let d = directory_is directory is front in
      false≢true (sym text ∙ ap is_text (directory_text directory is front)
      ∙ left_of root (names_of path) (all_but_last (a.0 ∷ a.1)) d.0 d.1 d.2
      (ap (λ (z : Names). is_text (text_of z)) (append_assoc root (names_of path) (all_but_last (a.0 ∷ a.1)) ∙ ap (λ (z : Names). root ++ z) (sym (ap all_but_last a.2 ∙ last_of_more (names_of path) a.0 a.1))) ∙ placed))))

  pub none_went : (directory : List ℕ) (found : Found) → path ≡ directory ++ slash ∷ [] → is_text (joined root directory) ≡ false → IsPlanned root g path kind → Went limits root (part path (items root g)) found found
  none_went directory found is text planned =
      subst (λ l. Went limits root l found found) (sym (part_inside path (items root g) (ends_so directory is) ∙ none_inside directory is (front_planned directory is planned) text)) (went_none limits root found)

  is_at : (directory : List ℕ) (place : Names) → path ≡ directory ++ slash ∷ [] → is_text (joined root directory) ≡ true → place ≡ root ++ names_of directory → names_of path ≡ names_of directory → IsPlanned root g path kind → IsAt root place path
  is_at directory place is text at same planned =
      let front = front_planned directory is planned in
      let there : place ≡ root ++ names_of path = at ∙ ap (λ (z : Names). root ++ z) (sym same) in
      (front, there, ap (λ (z : Names). is_text (text_of z)) there ∙ ap is_text (sym (directory_text directory is front)) ∙ text)

  pub inside_went : (directory : List ℕ) (place : Names) (old new : Found) → path ≡ directory ++ slash ∷ [] → is_text (joined root directory) ≡ true → place ≡ root ++ names_of directory → names_of path ≡ names_of directory
      → (IsAt root place path → Went limits root (within path (items root g)) old new) → IsPlanned root g path kind → Went limits root (part path (items root g)) old new
  inside_went directory place old new is text at same went planned =
      subst (λ l. Went limits root l old new) (sym (part_inside path (items root g) (ends_so directory is))) (went (is_at directory place is text at same planned))

  pub inside_fails : (directory : List ℕ) (place : Names) (count : ℕ) (fault : Fault) → path ≡ directory ++ slash ∷ [] → is_text (joined root directory) ≡ true → place ≡ root ++ names_of directory → names_of path ≡ names_of directory
      → (IsAt root place path → fault_along limits root count (within path (items root g)) ≡ Some fault) → IsPlanned root g path kind → fault_along limits root count (part path (items root g)) ≡ Some fault
  inside_fails directory place count fault is text at same fails planned =
      ap (fault_along limits root count) (part_inside path (items root g) (ends_so directory is)) ∙ fails (is_at directory place is text at same planned)

-- how long a path may be
pub path_short : (root : Names) (directory path : List ℕ) → path ≡ directory ++ slash ∷ [] → is_text (joined root directory) ≡ true → length path ≤ longest + 1
path_short root directory path is text =
    omega (arith, text_short (joined root directory) text, ap length is, length-append directory (slash ∷ []), length-append (slashed root) (slash ∷ directory))

pub path_longer : (front name path : List ℕ) → path ≡ front ++ name → 0 < length name → length front < length path
path_longer front name path is some = omega (arith, ap length is, length-append front name)

-- A TASK among the tasks
each_at : {A : Type 0} (P : A → Type 0) (xs : List A) (x : A) (ys : List A) → AllByRecursion P (xs ++ x ∷ ys) → P x
each_at P [] x ys h = h.0
each_at P (z ∷ xs) x ys h = each_at P xs x ys h.1

pub task_is : (all tasks xs ys : List Item) (x : Item) → list_all is_item_name (names_in all) ≡ true → ArePlanned all tasks → tasks ≡ xs ++ x ∷ ys → IsTask x.name
task_is all tasks xs ys x named planned split =
    task_of x.name (each_at (λ task. TaskFacts task.name) xs x ys (subst (λ l. AllByRecursion (λ task. TaskFacts task.name) l) split (each_facts all tasks named planned)))

module _ (limits : List ℕ → ℕ) (root : Names) (g : Ground) (place : Names) (front : List ℕ) (all tasks : List Item) (l : Listed root g place front all tasks) where
  planned_at : (xs : List Item) (x : Item) (ys : List Item) → tasks ≡ xs ++ x ∷ ys → IsPlanned root g (front ++ x.name) x.kind
  planned_at xs x ys split = each_at (λ task. IsPlanned root g (front ++ task.name) task.kind) xs x ys (subst (λ l. AllByRecursion (λ task. IsPlanned root g (front ++ task.name) task.kind) l) split (each_planned root g place front all tasks l))

  pub task_went : (xs : List Item) (x : Item) (ys : List Item) (old mid new : Found) → tasks ≡ xs ++ x ∷ ys → Went limits root (parts front xs (items root g)) old mid
      → (IsPlanned root g (front ++ x.name) x.kind → Went limits root (part (front ++ x.name) (items root g)) mid new) → Went limits root (parts front (xs ++ x ∷ []) (items root g)) old new
  task_went xs x ys old mid new split so_far went =
      subst (λ l. Went limits root l old new)
      (ap (λ l. parts front xs (items root g) ++ l) (sym (append-nil (part (front ++ x.name) (items root g)))) ∙ sym (flat_map-append (λ (task : Item). part (front ++ task.name) (items root g)) xs (x ∷ [])))
      (went_more limits root (parts front xs (items root g)) (part (front ++ x.name) (items root g)) old mid new so_far (went (planned_at xs x ys split)))

  pub task_fails : (xs : List Item) (x : Item) (ys : List Item) (old mid : Found) (fault : Fault) → tasks ≡ xs ++ x ∷ ys → Went limits root (parts front xs (items root g)) old mid
      → (IsPlanned root g (front ++ x.name) x.kind → fault_along limits root mid.count (part (front ++ x.name) (items root g)) ≡ Some fault) → fault_along limits root old.count (within front (items root g)) ≡ Some fault
  task_fails xs x ys old mid fault split so_far fails =
      ap (fault_along limits root old.count) (sym (parts_are root g place front all tasks l) ∙ ap (λ l. parts front l (items root g)) split ∙ flat_map-append (λ (task : Item). part (front ++ task.name) (items root g)) xs (x ∷ ys))
      ∙ went_fails limits root (parts front xs (items root g)) (part (front ++ x.name) (items root g)) (parts front ys (items root g)) old mid fault so_far (fails (planned_at xs x ys split))

  pub all_went : (old new : Found) → Went limits root (parts front tasks (items root g)) old new → Went limits root (within front (items root g)) old new
  all_went old new went = subst (λ l. Went limits root l old new) (parts_are root g place front all tasks l) went

-- FROM THE ROOT
pub front_nothing : IsFront []
front_nothing = (sym (ap front_of names_of_nothing), ap (list_all is_working) names_of_nothing)

at_root : (root : Names) → is_text (text_of root) ≡ true → IsAt root root []
at_root root text = (
  front_nothing,
  sym (ap (λ (z : Names). root ++ z) names_of_nothing ∙ append-nil root),
  text,
)

above_some : (ps : Names) → SomeParts ps → is_above [] ps ≡ true
above_some ps (n, ns, is) = ap (is_above []) is

all_within : (root : Names) (g : Ground) → within [] (items root g) ≡ entries (items root g)
unfolding within
all_within root g = filter_all (λ e. IsFound root g e.0 e.1) (λ e. is_within [] e.0) (entries (items root g)) (each_item root g)
    (λ e found. ap (λ (z : Names). is_above z (pieces e.0)) names_of_nothing ∙ above_some (pieces e.0) (pieces_some e.0))

may_walk : (limits : List ℕ → ℕ) (tells : Bool) (root : Names) (g : Ground) (fault : Fault) → MayMeet root fault → (IsTrue tells → walk_fault limits root g ≡ Some fault) → MayWalk tells root fault
may_walk limits tells root g (OddKind path) may told = may
may_walk limits tells root g (Dirty path) may told = (may, λ t. never_dirty limits root 0 (entries (items root g)) path (told t))
may_walk limits tells root g (TooLarge path size) may told = may
may_walk limits tells root g fault may told = absurd may

module _ (limits : List ℕ → ℕ) (root : Names) (g : Ground) (text : is_text (text_of root) ≡ true) where
  pub root_fails : (fault : Fault) → (IsAt root root [] → fault_along limits root 0 (within [] (items root g)) ≡ Some fault) → walk_fault limits root g ≡ Some fault
  root_fails fault fails = ap (fault_along limits root 0) (sym (all_within root g)) ∙ fails (at_root root text)

  pub root_may : (tells : Bool) (fault : Fault) → MayMeet root fault → (IsTrue tells → IsAt root root [] → fault_along limits root 0 (within [] (items root g)) ≡ Some fault) → MayWalk tells root fault
  root_may tells fault may told = may_walk limits tells root g fault may (λ t. root_fails fault (told t))

  pub root_went : (old new : Found) → old.count ≡ 0 → old.paths.items ≡ [] → (IsAt root root [] → Went limits root (within [] (items root g)) old new) → AreWorking limits root g new.paths.items
  root_went old new count none went =
      let w = went (at_root root text) in (
        (λ i. fault_along limits root (sym count i) (sym (all_within root g) i)) ∙ w.fault,
        w.paths ∙ (λ i. none i ++ map path_in (files_among (all_within root g i))),
      )
