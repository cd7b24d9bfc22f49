-- The making of a dataset: its tests, and its step.
use Rattle.std.proofs.Common.{◌≡◌, ◌≢◌, ◌≤◌, ◌<◌, inl, inr, ℕ, Bool, true, false, ◌||◌, cond, nat_lt, IsTrue, List, ◌∷◌, length, [], Option, None, Some, Ok, refl, sym, ap, ◌∙◌, subst}
use Rattle.std.proofs.lemmas.Bool.{cases_Bool, lt-ltb, le-ltb}
use Rattle.places.specs.All.{Names, text_of, Ground, stands, stands_below, stands_above}
use Rattle.file_store.specs.All.{Drive, present, KindEnds, only}
use Rattle.file_store.specs.declared.kinds.Kind.{Kind}
use Rattle.faults.specs.declared.faults.Fault.{Fault}
use Rattle.faults.specs.declared.faults.Fault.TheVariants.{AlreadyThere, Blocked, TooLarge}
use Rattle.file_store.specs.declared.kinds.Kind.TheVariants.{Absent, File, Dir}
use Rattle.git_objects.specs.declared.ids.Id.{Id}
use Rattle.object_store.specs.All.{IsFoundAmong, MayPut, puts_objects}
use Rattle.object_store.specs.declared.objects.NewObject.{NewObject}
use Rattle.acts.specs.All.{Act, Refuses, still, ending_of, go_on, bind, unless, puts}
use Rattle.repository.specs.All.{tmp_place, repo_of, head_place, repo_limit, large}
use Rattle.recursive_save.specs.First.{new_dataset, new_parts, head_text}
use Rattle.recursive_save.specs.Creating.{create_fault, finish, create_step, MayCreate}
use Rattle.recursive_save.specs.Creating.{middle_files, IsVacant, dataset_step}
use Rattle.recursive_save.proofs.Written.{put_shut}

-- THE REFUSAL by what stands
taken : (a b : Bool) → cond a File (cond b Dir Absent) ≢ Absent → (a || b) ≡ true
taken true b h = refl
taken false true h = refl
taken false false h = absurd (h refl)

untaken : (a b : Bool) → cond a File (cond b Dir Absent) ≡ Absent → (a || b) ≡ false
untaken true b h = absurd (cc h)
untaken false true h = absurd (cc h)
untaken false false h = refl

module _ (root : Names) (g : Ground) where
  abbrev late : Bool → Option Fault
  late above = cond above (Some (Blocked (tmp_place (repo_of root) 0))) None

  abbrev later : Bool → Option Fault
  later long = cond long (large (repo_of root)) (late (stands_above g root))

  fault_there : (stands g root || stands_below g root) ≡ true → create_fault root g ≡ Some (AlreadyThere root)
  fault_there there = ap (λ b. cond b (Some (AlreadyThere root)) (later (nat_lt repo_limit (length (text_of (repo_of root)))))) there

  fault_vacant : IsVacant root g → create_fault root g ≡ later (nat_lt repo_limit (length (text_of (repo_of root))))
  fault_vacant vacant = ap (λ b. cond b (Some (AlreadyThere root)) (later (nat_lt repo_limit (length (text_of (repo_of root)))))) vacant

  fault_large : IsVacant root g → 3584 < length (text_of (repo_of root)) → create_fault root g ≡ large (repo_of root)
  fault_large vacant long = fault_vacant vacant ∙ ap later (lt-ltb repo_limit (length (text_of (repo_of root))) long)

  fault_late : IsVacant root g → length (text_of (repo_of root)) ≤ 3584 → create_fault root g ≡ late (stands_above g root)
  fault_late vacant fits = fault_vacant vacant ∙ ap later (le-ltb repo_limit (length (text_of (repo_of root))) fits)

  pub fault_above : IsVacant root g → length (text_of (repo_of root)) ≤ 3584 → stands_above g root ≡ true → create_fault root g ≡ Some (Blocked (tmp_place (repo_of root) 0))
  fault_above vacant fits above = fault_late vacant fits ∙ ap late above

  pub fault_none : IsVacant root g → length (text_of (repo_of root)) ≤ 3584 → stands_above g root ≡ false → create_fault root g ≡ None
  fault_none vacant fits above = fault_late vacant fits ∙ ap late above

-- THE FAULTS
pub put_create : (tells : Bool) (root : Names) (moment : ℕ) (fresh : List ℕ) (fault : Fault)
    → MayPut tells (repo_of root) (new_parts (new_dataset root moment fresh)).objects fault → MayCreate tells (new_dataset root moment fresh) fault
put_create tells root moment fresh (AlreadyThere place) may = absurd (none_there (new_parts (new_dataset root moment fresh)).objects may)
  where
    none_there : (objects : List NewObject) → IsFoundAmong (repo_of root) objects (AlreadyThere place) → ⊥
    none_there [] found = found
    none_there (x ∷ objects) found = elim found [ inl here ↦ here | inr there ↦ none_there objects there ]
put_create tells root moment fresh (TooLarge path size) may = may
put_create tells root moment fresh (Blocked at) may = may
put_create tells root moment fresh fault may = may

pub put_plan : (tells : Bool) (root : Names) (moment : ℕ) (fresh : List ℕ) {repo : Names} {objects : List NewObject} → objects ≡ (new_parts (new_dataset root moment fresh)).objects → repo ≡ repo_of root
    → (fault : Fault) → MayPut tells repo objects fault → MayCreate tells (new_dataset root moment fresh) fault
put_plan tells root moment fresh {repo} {objects} is at fault may =
    put_create tells root moment fresh fault (subst (λ (list : List NewObject). MayPut tells (repo_of root) list fault) is (subst (λ (r : Names). MayPut tells r objects fault) at may))

pub large_fault : (tells : Bool) (root : Names) (moment : ℕ) (fresh text : List ℕ) (fault : Fault) → 3584 < length text → text ≡ text_of (repo_of root)
    → fault ≡ TooLarge text (length text) → MayCreate tells (new_dataset root moment fresh) fault
large_fault tells root moment fresh text fault long is same =
    subst (λ (f : Fault). MayCreate tells (new_dataset root moment fresh) f) (sym same) (is, ap length is, subst (λ (t : List ℕ). 3584 < length t) is long)

-- THE TESTS
module _ (tells : Bool) (root : Names) (old mid : Drive) (kind : Kind) (looked : KindEnds tells root old mid (Ok kind)) where
  pub there : (place : Names) → kind ≢ Absent → place ≡ root → IsTrue tells → (mid.history ≡ old.history) × (create_fault root (present old) ≡ Some (AlreadyThere place))
  there place stands_there is told = (
    (looked told).0,
    fault_there root (present old) (taken (stands (present old) root) (stands_below (present old) root) (λ e. stands_there ((looked told).1 ∙ e))) ∙ ap (λ (p : Names). Some (AlreadyThere p)) (sym is),
  )

  module _ (absent : kind ≡ Absent) where
    pub vacant : IsTrue tells → IsVacant root (present old)
    vacant told = untaken (stands (present old) root) (stands_below (present old) root) (sym (looked told).1 ∙ absent)

    pub large_there : (text : List ℕ) (fault : Fault) → 3584 < length text → text ≡ text_of (repo_of root) → fault ≡ TooLarge text (length text) → IsTrue tells → (mid.history ≡ old.history) × (create_fault root (present old) ≡ Some fault)
    large_there text fault long is same told = (
      (looked told).0,
      fault_large root (present old) (vacant told) (subst (λ (t : List ℕ). 3584 < length t) is long)
          ∙ ap (λ (t : List ℕ). Some (TooLarge t (length t))) (sym is) ∙ ap Some (sym same),
    )

-- THE STEP at a vacant root whose repository's place is short enough: the first write is refused where a file stands above
module _ (root : Names) (moment : ℕ) (fresh : List ℕ) where
  abbrev tested : Ground → Option Fault → Act Id
  tested g o = go_on (still (ending_of o)) (ending_of o) g (λ _. bind (dataset_step root (new_parts (new_dataset root moment fresh))) (λ _. finish (new_dataset root moment fresh)))

  writes_shut : (g : Ground) (x : NewObject) (objects : List NewObject) → (new_parts (new_dataset root moment fresh)).objects ≡ x ∷ objects → IsVacant root g → length (text_of (repo_of root)) ≤ 3584 → stands_above g root ≡ true
      → bind (dataset_step root (new_parts (new_dataset root moment fresh))) (λ _. finish (new_dataset root moment fresh)) g ≡ still (Refuses (Blocked (tmp_place (repo_of root) 0)))
  unfolding bind
  writes_shut g x objects is vacant fits above =
      let parts = new_parts (new_dataset root moment fresh) in
      ap (λ (a : Act (Unit {0})). go_on
      (go_on a a.ending g (λ _. bind (puts (middle_files root parts.config parts.index parts.settings parts.main)) (λ _. puts (only (tmp_place (repo_of root) 0) (head_place root) head_text))))
      (go_on a a.ending g (λ _. bind (puts (middle_files root parts.config parts.index parts.settings parts.main)) (λ _. puts (only (tmp_place (repo_of root) 0) (head_place root) head_text)))).ending
      g (λ _. finish (new_dataset root moment fresh)))
      (ap (λ (z : List NewObject). puts_objects (repo_of root) z g) is ∙ put_shut root x objects g vacant fits above)

  pub create_is : (g : Ground) → IsVacant root g → length (text_of (repo_of root)) ≤ 3584
      → bind (dataset_step root (new_parts (new_dataset root moment fresh))) (λ _. finish (new_dataset root moment fresh)) g ≡ create_step (new_dataset root moment fresh) g
  unfolding bind unless
  create_is g vacant fits = elim (cases_Bool (stands_above g root)) [
    | inl above ↦ writes_shut g _ _ refl vacant fits above ∙ sym (ap (tested g) (fault_above root g vacant fits above))
    | inr above ↦ sym (ap (tested g) (fault_none root g vacant fits above))
  ]
