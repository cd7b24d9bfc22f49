-- What is chosen for the open places, place by place, and that a crash may leave it.
use Rattle.std.proofs.Common.{◌≡◌, ◌≢◌, ◌⊎◌, inl, inr, ℕ, ◌+◌, ◌<◌, ◌≤◌, Bool, true, false, cond, ◌&&◌, ◌||◌, List, [], ◌∷◌, get_or, length, Option, Some, None, arith, refl, sym, ◌∙◌, ap, subst}
use Rattle.std.specs.Prelude.{◌==◌, IsSome, is_some, IsTrue, option_map}
use Rattle.std.specs.List.{list_any, slice_get}
use Rattle.std.specs.List.Sorted.{IsStrictlySortedBy}
use Rattle.std.specs.FinMap.{insert, remove}
use Rattle.std.proofs.lemmas.Bool.{cases_Bool, false≢true, false_from_ne_true}
use Rattle.std.proofs.lemmas.Map.Keys.{Less-from_sorted}
use Rattle.std.proofs.lemmas.Map.Views.{Contains-from_any}
use Rattle.std.proofs.lemmas.List.Folds.{list_any_at}
use Rattle.std.proofs.lemmas.Option.{get_or_from_slice_get, slice_get-get_or, slice_get_cases}
use Rattle.places.specs.All.{Names, IsAbove, place_cmp, place_eq, Ground, file_at, stands, is_shut}
use Rattle.places.specs.All.{IsGround}
use Rattle.places.proofs.Ties.{same_names}
use Rattle.places.proofs.Texts.{and_both}
use Rattle.places.proofs.Grammar.{or_either, or_left, or_right}
use Rattle.places.proofs.Grounds.{cases_place, same, file_at-insert_same, file_at-insert_other, file_at-remove_same, file_at-remove_other}
use Rattle.places.proofs.Standing.{is_shut-above, is_shut-below, IsGround-open}
use Rattle.file_store.specs.Course.{with_file}
use Rattle.file_store.specs.Disk.{Disk, MayHave, is_open, IsImage}
use Rattle.file_store.specs.Memory.Images.{AreOpen, torn_by, left_by, IsChosen}
use Rattle.file_store.proofs.Laid.{differ_by_order}

file_at-with_file_same : (g : Ground) (p : Names) (file : Option (List ℕ)) → file_at (with_file p file g) p ≡ file
file_at-with_file_same g p None = file_at-remove_same g p p refl
file_at-with_file_same g p (Some bytes) = file_at-insert_same g p bytes p refl

file_at-with_file_other : (g : Ground) (p : Names) (file : Option (List ℕ)) (q : Names) → q ≢ p → file_at (with_file p file g) q ≡ file_at g q
file_at-with_file_other g p None q apart = file_at-remove_other g p q apart
file_at-with_file_other g p (Some bytes) q apart = file_at-insert_other g p bytes q apart

-- the first n places have what is chosen for them
pub record AreChosen (d : Disk) (places : List Names) (choices : List ℕ) (n : ℕ) (g : Ground) : Type 0 where
  pub chosen : (i : ℕ) (p : Names) → i < n → slice_get places i ≡ Some p → file_at g p ≡ left_by (get_or choices i 0) d p
  pub others : (q : Names) → ((i : ℕ) → i < n → slice_get places i ≢ Some q) → file_at g q ≡ file_at d.now q

pub chosen_none : (d : Disk) (places : List Names) (choices : List ℕ) (g : Ground) → g ≡ d.now → AreChosen d places choices 0 g
chosen_none d places choices g is = record {
  chosen = λ i p below at. absurd (omega arith);
  others = λ q none. ap (λ (h : Ground). file_at h q) is;
}

module _ (d : Disk) (places : List Names) (choices : List ℕ) (n : ℕ) (p : Names) (sorted : IsStrictlySortedBy place_cmp places) (below : n < length places) (is : p ≡ get_or places n p) where
  here : slice_get places n ≡ Some p
  here = slice_get-get_or places n p below ∙ ap (λ (z : Names). Some z) (sym is)

  earlier : (i : ℕ) (q : Names) → i < n → slice_get places i ≡ Some q → q ≢ p
  earlier i q before at =
      let less = Less-from_sorted place_cmp places i n p sorted before below in
      let first = get_or_from_slice_get places i q p at in
      differ_by_order q p ((λ j. place_cmp (sym first j) (is j)) ∙ less)

  pub chosen_more : (g h : Ground) (file : Option (List ℕ)) → AreChosen d places choices n g → file ≡ left_by (get_or choices n 0) d p → h ≡ with_file p file g → AreChosen d places choices (n + 1) h
  chosen_more g h file before left made = record { chosen = now_chosen; others = rest }
    where
      last_chosen : (i : ℕ) (q : Names) → slice_get places i ≡ Some q → i ≡ n → file_at h q ≡ left_by (get_or choices i 0) d q
      last_chosen i q at e =
          let q_is : q ≡ p = cc (here, at, e) in
          ap (λ (k : Ground). file_at k q) made ∙ ap (λ (z : Names). file_at (with_file p file g) z) q_is
          ∙ file_at-with_file_same g p file ∙ left ∙ (λ j. left_by (get_or choices (sym e j) 0) d (sym q_is j))

      now_chosen : (i : ℕ) (q : Names) → i < n + 1 → slice_get places i ≡ Some q → file_at h q ≡ left_by (get_or choices i 0) d q
      now_chosen i q within at = elim (cases_Bool (i == n)) [
        | inl last ↦ last_chosen i q at (grind (arith, last))
        | inr other ↦ ap (λ (k : Ground). file_at k q) made ∙ file_at-with_file_other g p file q (earlier i q (grind (arith, other, within)) at) ∙ before.chosen i q (grind (arith, other, within)) at
      ]

      rest : (q : Names) → ((i : ℕ) → i < n + 1 → slice_get places i ≢ Some q) → file_at h q ≡ file_at d.now q
      rest q none =
          ap (λ (k : Ground). file_at k q) made
          ∙ file_at-with_file_other g p file q (λ e. none n (omega arith) (here ∙ ap (λ (z : Names). Some z) (sym e)))
          ∙ before.others q (λ i within. none i (omega arith))

pub chosen_all : (d : Disk) (places : List Names) (choices : List ℕ) (n : ℕ) (g : Ground) → length places ≤ n → AreChosen d places choices n g → IsChosen d places choices g
chosen_all d places choices n g all chosen = record {
  chosen = λ i p at. chosen.chosen i p (within i p at) at;
  others = λ q none. chosen.others q (λ i before at. false≢true (sym none ∙ found i q at));
}
  where
    inside : (i : ℕ) (p : Names) → slice_get places i ≡ Some p → i < length places
    inside i p at = by (slice_get_cases places i).1
      where
        by : ((x : Names) × (i < length places) × (slice_get places i ≡ Some x) × (get_or places i x ≡ x)) ⊎ ((length places ≤ i) × (slice_get places i ≡ None)) → i < length places
        by (inl found) = found.1
        by (inr past) = absurd (cc (at, past.1))

    within : (i : ℕ) (p : Names) → slice_get places i ≡ Some p → i < n
    within i p at = let inner = inside i p at in omega arith

    found : (i : ℕ) (q : Names) → slice_get places i ≡ Some q → list_any (place_eq q) places ≡ true
    found i q at = list_any_at (place_eq q) places i q (inside i q at) (same q (get_or places i q) (sym (get_or_from_slice_get places i q q at)))

-- places that pass a test
any_one : (test : Names → Bool) (ps : List Names) → list_any test ps ≡ true → (p : Names) × (test p ≡ true)
any_one test [] h = absurd (cc h)
any_one test (p ∷ ps) h = elim (or_either (test p) (list_any test ps) h) [
  | inl here ↦ (p, here)
  | inr there ↦ any_one test ps there
]

any_is : (test : Names → Bool) (ps : List Names) (p : Names) → list_any (place_eq p) ps ≡ true → test p ≡ true → list_any test ps ≡ true
any_is test [] p h passes = absurd (cc h)
any_is test (q ∷ ps) p h passes = elim (or_either (place_eq p q) (list_any (place_eq p) ps) h) [
  | inl here ↦ or_left (test q) (list_any test ps) (ap test (sym ((same_names p q).0 here)) ∙ passes)
  | inr there ↦ or_right (test q) (list_any test ps) (any_is test ps p there passes)
]

-- A CRASH MAY LEAVE what is chosen
module _ (d : Disk) (p : Names) where
  may_have_torn : (choice : ℕ) (torn : Bool) → d.torn p ≡ torn → MayHave d p (cond torn (option_map (torn_by choice) (file_at d.now p)) (file_at d.now p))
  may_have_torn choice true is = inr (inr is)
  may_have_torn choice false is = inr (inl refl)

  pub may_have_left : (choice : ℕ) → MayHave d p (left_by choice d p)
  may_have_left choice = by (choice == 0)
    where
      by : (b : Bool) → MayHave d p (cond b (file_at d.safe p) (cond (d.torn p) (option_map (torn_by choice) (file_at d.now p)) (file_at d.now p)))
      by true = inl refl
      by false = may_have_torn choice (d.torn p) refl

module _ (d : Disk) (places : List Names) (choices : List ℕ) (g : Ground) (are_open : AreOpen d places) (chosen : IsChosen d places choices g) where
  at_index : (q : Names) → list_any (place_eq q) places ≡ true → MayHave d q (file_at g q)
  at_index q h =
      let k = Contains-from_any (λ x y e. (same_names x y).0 e) q places h in
      let at = slice_get-get_or places k.0 q k.1 ∙ ap (λ (z : Names). Some z) k.2 in
      subst (λ (v : Option (List ℕ)). MayHave d q v) (sym (chosen.chosen k.0 q at)) (may_have_left d q (get_or choices k.0 0))

  pub may_have_chosen : (q : Names) → MayHave d q (file_at g q)
  may_have_chosen q = elim (cases_Bool (list_any (place_eq q) places)) [
    | inl here ↦ at_index q here
    | inr there ↦ inr (inl (chosen.others q there))
  ]

  -- a file at an open place is in the way, or none is
  clear : list_any (λ p. stands g p && is_shut g p) places ≡ false → (p : Names) → list_any (place_eq p) places ≡ true → IsSome (file_at g p) → is_shut g p ≡ false
  clear none p here some = false_from_ne_true (is_shut g p) (λ shut. false≢true (sym none ∙ any_is (λ q. stands g q && is_shut g q) places p here (λ i. some i && shut i)))

  pub ground_chosen : IsGround d.now → list_any (λ p. stands g p && is_shut g p) places ≡ false → IsGround g
  ground_chosen clash_free none p q some_p some_q above = elim (cases_Bool (list_any (place_eq p) places)) [
    | inl here ↦ false≢true (sym (clear none p here some_p) ∙ is_shut-below g p q some_q above)
    | inr p_there ↦ elim (cases_Bool (list_any (place_eq q) places)) [
      | inl here ↦ false≢true (sym (clear none q here some_q) ∙ is_shut-above g q p some_p above)
      | inr q_there ↦ clash_free p q
          (sym (ap is_some (chosen.others p p_there)) ∙ some_p) (sym (ap is_some (chosen.others q q_there)) ∙ some_q) above
    ]
  ]

  pub image_chosen : IsGround d.now → list_any (λ p. stands g p && is_shut g p) places ≡ false → IsImage d g
  image_chosen clash_free none = record { clash_free = ground_chosen clash_free none; places = may_have_chosen }

  pub no_ground : list_any (λ p. stands g p && is_shut g p) places ≡ true → IsGround g → ⊥
  no_ground some clash_free =
      let k = any_one (λ p. stands g p && is_shut g p) places some in
      let both = and_both (stands g k.0) (is_shut g k.0) k.1 in
      false≢true (sym (IsGround-open g k.0 clash_free both.0) ∙ both.1)

-- the same of another name of the disk and of the places
pub carried : (e d : Disk) (places shown : List Names) (choices : List ℕ) (g : Ground) → e ≡ d → shown ≡ places → AreOpen e places → IsChosen e shown choices g
    → AreOpen d places × IsChosen d places choices g
carried e d places shown choices g is same_places are_open chosen = (
  subst (λ (x : Disk). AreOpen x places) is are_open,
  subst (λ (x : Disk). IsChosen x places choices g) is (subst (λ (ps : List Names). IsChosen e ps choices g) same_places chosen),
)
