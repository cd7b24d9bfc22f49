-- Lines in order: of each repository the last counts.
use Rattle.std.proofs.Common.{◌≡◌, ℕ, suc, ◌<◌, ◌≤◌, true, false, cond, List, [], ◌∷◌, length, get_or, inl, inr, refl, sym, ap, ◌∙◌, subst, arith}
use Rattle.std.specs.Prelude.{bytes_eq}
use Rattle.std.specs.List.{AllByRecursion}
use Rattle.std.specs.List.Sorted.{IsPermutation, IsSorted}
use Rattle.std.specs.Ordering.{is_lt}
use Rattle.std.proofs.lemmas.Bool.{cases_Bool, cond-true, cond-false, false≢true}
use Rattle.std.proofs.lemmas.List.Elements.{recursion_from_All}
use Rattle.std.proofs.lemmas.List.Sorted.{Contains-permutation, IsPermutation-sym, sorted_far}
use Rattle.std.proofs.lemmas.Slice.Eq.{bytes_eq-Decides}
use Rattle.location_log.specs.Newest.{AreNewest, Ascend, IsBefore}
use Rattle.location_log.specs.Plain.{PlainLine}
use Rattle.location_log.specs.Steps.{lasts, line_cmp, rank_cmp}
use Rattle.location_log.proofs.Best.{BestOf, In, NoneOf, contains_in, in_contains, more_first, more_keeps, more_other, self_or}
use Rattle.location_log.proofs.Merging.{BestLines, are_newest, in_all, lines_alike, same_alike}
use Rattle.location_log.proofs.Orders.{before_trans, line_weak, neither, not_below, not_itself, same_below}

-- none is below an earlier one
abbrev pub AtLeast : PlainLine → PlainLine → Type 0
AtLeast x y = is_lt (line_cmp y x) ≡ false

abbrev pub Up : List PlainLine → Type 0
Up [] = Unit {0}
Up (x ∷ xs) = AllByRecursion (AtLeast x) xs × Up xs

up_far : (xs : List PlainLine) → ((i j : ℕ) (d : PlainLine) → i ≤ j → j < length xs → is_lt (line_cmp (get_or xs j d) (get_or xs i d)) ≡ false) → Up xs
up_far [] h = tt
up_far (x ∷ xs) h = (
  recursion_from_All (AtLeast x) xs (λ k d lt. h 0 (suc k) d (omega arith) (omega arith)),
  up_far xs (λ i j d le lt. h (suc i) (suc j) d (omega arith) (omega arith)),
)

pub up_sorted : (xs : List PlainLine) → IsSorted line_cmp xs → Up xs
up_sorted xs s = up_far xs (λ i j d le lt. sorted_far (λ (x y : PlainLine). is_lt (line_cmp x y)) line_weak xs s i j d le lt)

-- ---- the last of each repository
abbrev Kept : PlainLine → PlainLine → List PlainLine → List PlainLine
Kept x y more = cond (bytes_eq x.uuid y.uuid) (lasts (y ∷ more)) (x ∷ lasts (y ∷ more))

all_lasts : (P : PlainLine → Type 0) (xs : List PlainLine) → AllByRecursion P xs → AllByRecursion P (lasts xs)
all_lasts P [] all = tt
all_lasts P (x ∷ []) all = all
all_lasts P (x ∷ y ∷ more) all =
    let rest = all_lasts P (y ∷ more) all.1 in
    elim (cases_Bool (bytes_eq x.uuid y.uuid)) [
      | inl holds ↦ subst (AllByRecursion P) (sym (cond-true (bytes_eq x.uuid y.uuid) (lasts (y ∷ more)) (x ∷ lasts (y ∷ more)) holds)) rest
      | inr fails ↦ subst (AllByRecursion P) (sym (cond-false (bytes_eq x.uuid y.uuid) (lasts (y ∷ more)) (x ∷ lasts (y ∷ more)) fails)) (all.0, rest)
    ]

pub all_weaker : (P Q : PlainLine → Type 0) → ((z : PlainLine) → P z → Q z) → (xs : List PlainLine) → AllByRecursion P xs → AllByRecursion Q xs
all_weaker P Q f [] all = tt
all_weaker P Q f (x ∷ xs) all = (f x all.0, all_weaker P Q f xs all.1)

differ : (x y : PlainLine) → bytes_eq x.uuid y.uuid ≡ false → x.uuid ≡ y.uuid → ⊥
differ x y fails e = false≢true (sym fails ∙ (bytes_eq-Decides x.uuid y.uuid).1 e)

alike : (x y : PlainLine) → bytes_eq x.uuid y.uuid ≡ true → x.uuid ≡ y.uuid
alike x y holds = (bytes_eq-Decides x.uuid y.uuid).0 holds

-- a line before the next is before all others
before_next : (x y z : PlainLine) → IsBefore x y → AtLeast y z → IsBefore x z
before_next x y z h k = elim (cases_Bool (bytes_eq z.uuid y.uuid)) [
  | inl holds ↦ subst (λ (u : List ℕ). IsBefore x (record { secs = z.secs; nanos = z.nanos; claim = z.claim; uuid = u })) (sym (alike z y holds)) h
  | inr fails ↦ before_trans x y z h (not_below y z k (differ z y fails))
]

before_all : (x y : PlainLine) (more : List PlainLine) → Up (x ∷ y ∷ more) → bytes_eq x.uuid y.uuid ≡ false → AllByRecursion (IsBefore x) (y ∷ more)
before_all x y more up fails =
    let first = not_below x y up.0.0 (λ e. differ x y fails (sym e)) in
    (first, all_weaker (AtLeast y) (IsBefore x) (λ z k. before_next x y z first k) more up.1.0)

ascend_lasts : (xs : List PlainLine) → Up xs → Ascend (lasts xs)
ascend_lasts [] up = tt
ascend_lasts (x ∷ []) up = (tt, tt)
ascend_lasts (x ∷ y ∷ more) up =
    let rest = ascend_lasts (y ∷ more) up.1 in
    elim (cases_Bool (bytes_eq x.uuid y.uuid)) [
      | inl holds ↦ subst Ascend (sym (cond-true (bytes_eq x.uuid y.uuid) (lasts (y ∷ more)) (x ∷ lasts (y ∷ more)) holds)) rest
      | inr fails ↦
          subst Ascend (sym (cond-false (bytes_eq x.uuid y.uuid) (lasts (y ∷ more)) (x ∷ lasts (y ∷ more)) fails))
          (all_lasts (IsBefore x) (y ∷ more) (before_all x y more up fails), rest)
    ]

none_after : (x : PlainLine) (xs : List PlainLine) → AllByRecursion (IsBefore x) xs → NoneOf xs x.uuid
none_after x xs all o h e = not_itself x o (in_all (IsBefore x) xs o all h) (sym e)

-- one line more below
best_more : (x l : PlainLine) (xs : List PlainLine) → AllByRecursion (AtLeast x) xs → BestOf xs l.uuid l → BestOf (x ∷ xs) l.uuid l
best_more x l xs all c = elim (cases_Bool (bytes_eq l.uuid x.uuid)) [
  | inl holds ↦ more_keeps x xs l.uuid l (same_below x l (in_all (AtLeast x) xs l all c.within) (alike l x holds)) c
  | inr fails ↦ more_other x xs l.uuid l (λ e. differ l x fails (sym e)) c
]

lasts_best : (xs : List PlainLine) → Up xs → (l : PlainLine) → In l (lasts xs) → BestOf xs l.uuid l
lasts_best [] up l h = absurd h
lasts_best (x ∷ []) up l (inl e) = record {
  within = inl e;
  own = refl;
  best = λ o h k. elim h [
    | inl is ↦ self_or l o (sym e ∙ is)
    | inr none ↦ absurd none
  ];
}
lasts_best (x ∷ []) up l (inr h) = absurd h
lasts_best (x ∷ y ∷ more) up l h = elim (cases_Bool (bytes_eq x.uuid y.uuid)) [
  | inl holds ↦
      best_more x l (y ∷ more) up.0
      (lasts_best (y ∷ more) up.1 l (subst (In l) (cond-true (bytes_eq x.uuid y.uuid) (lasts (y ∷ more)) (x ∷ lasts (y ∷ more)) holds) h))
  | inr fails ↦ elim (subst (In l) (cond-false (bytes_eq x.uuid y.uuid) (lasts (y ∷ more)) (x ∷ lasts (y ∷ more)) fails) h) [
    | inl e ↦
        subst (λ (z : PlainLine). BestOf (x ∷ y ∷ more) z.uuid z) e
        (more_first x (y ∷ more) x.uuid refl (none_after x (y ∷ more) (before_all x y more up fails)))
    | inr k ↦ best_more x l (y ∷ more) up.0 (lasts_best (y ∷ more) up.1 l k)
  ]
]

-- what counts among more lines counts among fewer
best_less : (x l : PlainLine) (xs : List PlainLine) → In l xs → BestOf (x ∷ xs) l.uuid l → BestOf xs l.uuid l
best_less x l xs h c = record { within = h; own = refl; best = λ o k e. c.best o (inr k) e }

best_lasts : (xs : List PlainLine) → Up xs → (l : PlainLine) → BestOf xs l.uuid l → In l (lasts xs)
best_lasts [] up l c = c.within
best_lasts (x ∷ []) up l c = c.within
best_lasts (x ∷ y ∷ more) up l c = elim (cases_Bool (bytes_eq x.uuid y.uuid)) [
  | inl holds ↦
      subst (In l) (sym (cond-true (bytes_eq x.uuid y.uuid) (lasts (y ∷ more)) (x ∷ lasts (y ∷ more)) holds))
      (elim c.within [
        | inl e ↦
            let own : y.uuid ≡ l.uuid = sym (alike x y holds) ∙ ap (λ (z : PlainLine). z.uuid) e in
            let low : is_lt (rank_cmp y l) ≡ false =
            subst (λ (z : PlainLine). is_lt (rank_cmp y z) ≡ false) e (same_below x y up.0.0 (sym (alike x y holds))) in
            let is : y ≡ l = neither y l own low (c.best y (inr (inl refl)) own) in
            best_lasts (y ∷ more) up.1 l (best_less x l (y ∷ more) (inl is) c)
        | inr h ↦ best_lasts (y ∷ more) up.1 l (best_less x l (y ∷ more) h c)
      ])
  | inr fails ↦
      subst (In l) (sym (cond-false (bytes_eq x.uuid y.uuid) (lasts (y ∷ more)) (x ∷ lasts (y ∷ more)) fails))
      (elim c.within [
        | inl e ↦ inl e
        | inr h ↦ inr (best_lasts (y ∷ more) up.1 l (best_less x l (y ∷ more) h c))
      ])
]

lasts_are : (xs : List PlainLine) → Up xs → BestLines xs (lasts xs)
lasts_are xs up = record {
  ascend = ascend_lasts xs up;
  each = λ l. (λ h. lasts_best xs up l h, λ c. best_lasts xs up l c);
}

-- sorted lines, and of each repository the last
pub newest_sorted : (xs ys : List PlainLine) → IsPermutation xs ys → IsSorted line_cmp ys → AreNewest xs (lasts ys)
newest_sorted xs ys moved sorted =
    let back = IsPermutation-sym xs ys moved in
    are_newest xs (lasts ys) (lines_alike ys xs (lasts ys)
    (same_alike ys xs (λ l. (
      λ h. contains_in l xs (Contains-permutation ys xs l back (in_contains l ys h)),
      λ h. contains_in l ys (Contains-permutation xs ys l moved (in_contains l xs h)),
    )))
    (lasts_are ys (up_sorted ys sorted)))
