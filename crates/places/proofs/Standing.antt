-- What stands at, above and below a place of a ground, before a change and after it.
use Rattle.std.proofs.Common.{◌≡◌, ◌≢◌, ◌⊎◌, inl, inr, ℕ, Bool, true, false, ◌||◌, List, [], ◌∷◌, Option, Some, None, refl, sym, ap, ◌∙◌, subst}
use Rattle.std.specs.Prelude.{IsSome, is_some}
use Rattle.std.specs.Ordering.{eq_by_cmp}
use Rattle.std.specs.List.{list_any}
use Rattle.std.specs.FinMap.{contains_key-keys, keys, empty, insert, remove, get-empty}
use Rattle.std.proofs.lemmas.Bool.{cases_Bool, false_from_ne_true, false≢true}
use Rattle.places.specs.Names.{Names, IsAbove, IsAtOrAbove, is_above, IsApart}
use Rattle.places.specs.Order.{names_cmp}
use Rattle.places.proofs.Ties.{same_names, place_eq-names_cmp}
use Rattle.places.specs.Ground.{Ground, file_at, stands, stands_below, stands_above, is_shut}
use Rattle.places.specs.Ground.{IsGround}
use Rattle.places.proofs.Texts.{or_neither}
use Rattle.places.proofs.Grammar.{or_either, or_left, or_right}
use Rattle.places.proofs.Above.{is_above-sound, is_above-complete, none_above, not_above_itself, is_above-itself, at_or_above-above, compare_above}
use Rattle.places.proofs.Grounds.{same, cases_place, file_at-insert_same, file_at-insert_other, file_at-remove_same, file_at-remove_other}

-- TESTS of the places where files stand
same_key-itself : (p : Names) → eq_by_cmp names_cmp p p ≡ true
same_key-itself p = sym (place_eq-names_cmp p p) ∙ same p p refl

same_key-is : (p q : Names) → eq_by_cmp names_cmp p q ≡ true → p ≡ q
same_key-is p q h = (same_names p q).0 (place_eq-names_cmp p q ∙ h)

any_in : (test : Names → Bool) (q : Names) → test q ≡ true → (ks : List Names) → list_any (eq_by_cmp names_cmp q) ks ≡ true → list_any test ks ≡ true
any_in test q passes [] h = absurd (cc h)
any_in test q passes (k ∷ ks) h = elim (or_either (eq_by_cmp names_cmp q k) (list_any (eq_by_cmp names_cmp q) ks) h) [
  | inl e ↦ or_left (test k) (list_any test ks) (ap test (sym (same_key-is q k e)) ∙ passes)
  | inr r ↦ or_right (test k) (list_any test ks) (any_in test q passes ks r)
]

found_in : (test : Names → Bool) (ks : List Names) → list_any test ks ≡ true → (q : Names) × (test q ≡ true) × (list_any (eq_by_cmp names_cmp q) ks ≡ true)
found_in test [] h = absurd (cc h)
found_in test (k ∷ ks) h = elim (or_either (test k) (list_any test ks) h) [
  | inl e ↦ (k, e, or_left (eq_by_cmp names_cmp k k) (list_any (eq_by_cmp names_cmp k) ks) (same_key-itself k))
  | inr r ↦ let found = found_in test ks r in (found.0, found.1, or_right (eq_by_cmp names_cmp found.0 k) (list_any (eq_by_cmp names_cmp found.0) ks) found.2)
]

-- a file at a place that passes a test
pub any_key : (test : Names → Bool) (g : Ground) (q : Names) → test q ≡ true → IsSome (file_at g q) → list_any test (keys g) ≡ true
any_key test g q passes some = any_in test q passes (keys g) (sym (contains_key-keys g q) ∙ some)

-- and the other way round
pub key_any : (test : Names → Bool) (g : Ground) → list_any test (keys g) ≡ true → (q : Names) × (test q ≡ true) × IsSome (file_at g q)
key_any test g h = let found = found_in test (keys g) h in (found.0, found.1, contains_key-keys g found.0 ∙ found.2)

-- two tests that follow from one another
pub same_truth : (a b : Bool) → (a ≡ true → b ≡ true) → (b ≡ true → a ≡ true) → a ≡ b
same_truth true b to back = sym (to refl)
same_truth false true to back = back refl
same_truth false false to back = refl

-- another place than one that fails the test
other_place : (test : Names → Bool) (p q : Names) → test p ≡ false → test q ≡ true → q ≢ p
other_place test p q fails passes e = cc (sym passes ∙ ap test e ∙ fails)

-- a file at a place that fails the test changes nothing
pub any-insert : (test : Names → Bool) (g : Ground) (p : Names) (b : List ℕ) → test p ≡ false → list_any test (keys (insert g p b)) ≡ list_any test (keys g)
any-insert test g p b fails = same_truth _ _
    (λ h. let k = key_any test (insert g p b) h in any_key test g k.0 k.1 (ap is_some (sym (file_at-insert_other g p b k.0 (other_place test p k.0 fails k.1))) ∙ k.2))
    (λ h. let k = key_any test g h in any_key test (insert g p b) k.0 k.1 (ap is_some (file_at-insert_other g p b k.0 (other_place test p k.0 fails k.1)) ∙ k.2))

pub any-remove : (test : Names → Bool) (g : Ground) (p : Names) → test p ≡ false → list_any test (keys (remove g p)) ≡ list_any test (keys g)
any-remove test g p fails = same_truth _ _
    (λ h. let k = key_any test (remove g p) h in any_key test g k.0 k.1 (ap is_some (sym (file_at-remove_other g p k.0 (other_place test p k.0 fails k.1))) ∙ k.2))
    (λ h. let k = key_any test g h in any_key test (remove g p) k.0 k.1 (ap is_some (file_at-remove_other g p k.0 (other_place test p k.0 fails k.1)) ∙ k.2))

-- and at one that passes it makes the test hold
pub any-insert_is : (test : Names → Bool) (g : Ground) (p : Names) (b : List ℕ) → list_any test (keys (insert g p b)) ≡ (test p || list_any test (keys g))
any-insert_is test g p b = elim (cases_Bool (test p)) [
  | inl passes ↦ any_key test (insert g p b) p passes (ap is_some (file_at-insert_same g p b p refl)) ∙ sym (or_left (test p) (list_any test (keys g)) passes)
  | inr fails ↦ any-insert test g p b fails ∙ ap (λ t. t || list_any test (keys g)) (sym fails)
]

-- WHAT STANDS
pub stands-file : (g : Ground) (p : Names) → stands g p ≡ true → (b : List ℕ) × (file_at g p ≡ Some b)
stands-file g p h = by (file_at g p) refl
  where
    by : (o : Option (List ℕ)) → file_at g p ≡ o → (b : List ℕ) × (file_at g p ≡ Some b)
    by None e = absurd (cc (ap is_some e, h))
    by (Some b) e = (b, e)

pub stands-none : (g : Ground) (p : Names) → stands g p ≡ false → file_at g p ≡ None
stands-none g p h = by (file_at g p) refl
  where
    by : (o : Option (List ℕ)) → file_at g p ≡ o → file_at g p ≡ None
    by None e = e
    by (Some b) e = absurd (cc (ap is_some e, h))

-- what stood still stands after an insertion
pub file_at-insert_stood : (g : Ground) (p : Names) (b : List ℕ) (q : Names) → IsSome (file_at g q) → IsSome (file_at (insert g p b) q)
file_at-insert_stood g p b q some = elim (cases_place q p) [
  | inl is ↦ ap is_some (file_at-insert_same g p b q is)
  | inr apart ↦ ap is_some (file_at-insert_other g p b q apart) ∙ some
]

-- what stands after a removal stood before
pub file_at-remove_stood : (g : Ground) (p q : Names) → IsSome (file_at (remove g p) q) → IsSome (file_at g q)
file_at-remove_stood g p q some = elim (cases_place q p) [
  | inl is ↦ absurd (false≢true (sym (ap is_some (file_at-remove_same g p q is)) ∙ some))
  | inr apart ↦ sym (ap is_some (file_at-remove_other g p q apart)) ∙ some
]

-- a place between a file below p, by the test
pub stands_below-file : (g : Ground) (p : Names) → stands_below g p ≡ true → (q : Names) × IsSome (file_at g q) × IsAbove p q
unfolding stands_below
stands_below-file g p h = let k = key_any (is_above p) g h in (k.0, k.2, is_above-sound p k.0 k.1)

pub stands_below-by : (g : Ground) (p q : Names) → IsSome (file_at g q) → IsAbove p q → stands_below g p ≡ true
unfolding stands_below
stands_below-by g p q some above = any_key (is_above p) g q (is_above-complete p q above) some

pub none_stands_below : (g : Ground) (p : Names) → stands_below g p ≡ false → (q : Names) → IsSome (file_at g q) → IsAbove p q → ⊥
none_stands_below g p h q some above = false≢true (sym h ∙ stands_below-by g p q some above)

pub stands_below-none : (g : Ground) (p : Names) → ((q : Names) → IsSome (file_at g q) → IsAbove p q → ⊥) → stands_below g p ≡ false
stands_below-none g p none = false_from_ne_true (stands_below g p) (λ h. let k = stands_below-file g p h in none k.0 k.1 k.2)

-- the same above p
pub stands_above-file : (g : Ground) (p : Names) → stands_above g p ≡ true → (q : Names) × IsSome (file_at g q) × IsAbove q p
unfolding stands_above
stands_above-file g p h = let k = key_any (λ q. is_above q p) g h in (k.0, k.2, is_above-sound k.0 p k.1)

pub stands_above-by : (g : Ground) (p q : Names) → IsSome (file_at g q) → IsAbove q p → stands_above g p ≡ true
unfolding stands_above
stands_above-by g p q some above = any_key (λ q. is_above q p) g q (is_above-complete q p above) some

pub none_stands_above : (g : Ground) (p : Names) → stands_above g p ≡ false → (q : Names) → IsSome (file_at g q) → IsAbove q p → ⊥
none_stands_above g p h q some above = false≢true (sym h ∙ stands_above-by g p q some above)

pub stands_above-none : (g : Ground) (p : Names) → ((q : Names) → IsSome (file_at g q) → IsAbove q p → ⊥) → stands_above g p ≡ false
stands_above-none g p none = false_from_ne_true (stands_above g p) (λ h. let k = stands_above-file g p h in none k.0 k.1 k.2)

-- the same above or below p
pub is_shut-file : (g : Ground) (p : Names) → is_shut g p ≡ true → (q : Names) × IsSome (file_at g q) × (IsAbove q p ⊎ IsAbove p q)
is_shut-file g p h = elim (or_either (stands_above g p) (stands_below g p) h) [
  | inl above ↦ let k = stands_above-file g p above in (k.0, k.1, inl k.2)
  | inr below ↦ let k = stands_below-file g p below in (k.0, k.1, inr k.2)
]

pub is_shut-above : (g : Ground) (p q : Names) → IsSome (file_at g q) → IsAbove q p → is_shut g p ≡ true
is_shut-above g p q some above = or_left (stands_above g p) (stands_below g p) (stands_above-by g p q some above)

pub is_shut-below : (g : Ground) (p q : Names) → IsSome (file_at g q) → IsAbove p q → is_shut g p ≡ true
is_shut-below g p q some above = or_right (stands_above g p) (stands_below g p) (stands_below-by g p q some above)

pub is_shut-by : (g : Ground) (p q : Names) → IsSome (file_at g q) → IsAbove q p ⊎ IsAbove p q → is_shut g p ≡ true
is_shut-by g p q some (inl above) = is_shut-above g p q some above
is_shut-by g p q some (inr below) = is_shut-below g p q some below

pub none_shuts : (g : Ground) (p : Names) → is_shut g p ≡ false → (q : Names) → IsSome (file_at g q) → IsAbove q p ⊎ IsAbove p q → ⊥
none_shuts g p h q some near = false≢true (sym h ∙ is_shut-by g p q some near)

pub is_shut-none : (g : Ground) (p : Names) → ((q : Names) → IsSome (file_at g q) → IsAbove q p ⊎ IsAbove p q → ⊥) → is_shut g p ≡ false
is_shut-none g p none = false_from_ne_true (is_shut g p) (λ h. let k = is_shut-file g p h in none k.0 k.1 k.2)

-- a place that isn't shut has nothing above and nothing below
pub open_parts : (g : Ground) (p : Names) → is_shut g p ≡ false → (stands_above g p ≡ false) × (stands_below g p ≡ false)
open_parts g p h = or_neither (stands_above g p) (stands_below g p) h

-- AFTER A CHANGE at p
pub stands-insert_same : (g : Ground) (p : Names) (b : List ℕ) → stands (insert g p b) p ≡ true
stands-insert_same g p b = ap is_some (file_at-insert_same g p b p refl)

pub stands-insert_other : (g : Ground) (p : Names) (b : List ℕ) (q : Names) → q ≢ p → stands (insert g p b) q ≡ stands g q
stands-insert_other g p b q apart = ap is_some (file_at-insert_other g p b q apart)

pub stands-remove_same : (g : Ground) (p : Names) → stands (remove g p) p ≡ false
stands-remove_same g p = ap is_some (file_at-remove_same g p p refl)

pub stands-remove_other : (g : Ground) (p q : Names) → q ≢ p → stands (remove g p) q ≡ stands g q
stands-remove_other g p q apart = ap is_some (file_at-remove_other g p q apart)

pub stands_below-insert : (g : Ground) (p : Names) (b : List ℕ) (q : Names) → is_above q p ≡ false → stands_below (insert g p b) q ≡ stands_below g q
unfolding stands_below
stands_below-insert g p b q away = any-insert (is_above q) g p b away

pub stands_above-insert : (g : Ground) (p : Names) (b : List ℕ) (q : Names) → is_above p q ≡ false → stands_above (insert g p b) q ≡ stands_above g q
unfolding stands_above
stands_above-insert g p b q away = any-insert (λ r. is_above r q) g p b away

-- the whole of it, wherever p lies
pub stands_below-insert_is : (g : Ground) (p : Names) (b : List ℕ) (q : Names) → stands_below (insert g p b) q ≡ (is_above q p || stands_below g q)
unfolding stands_below
stands_below-insert_is g p b q = any-insert_is (is_above q) g p b

pub stands_above-insert_is : (g : Ground) (p : Names) (b : List ℕ) (q : Names) → stands_above (insert g p b) q ≡ (is_above p q || stands_above g q)
unfolding stands_above
stands_above-insert_is g p b q = any-insert_is (λ r. is_above r q) g p b

pub is_shut-insert : (g : Ground) (p : Names) (b : List ℕ) (q : Names) → is_above p q ≡ false → is_above q p ≡ false → is_shut (insert g p b) q ≡ is_shut g q
is_shut-insert g p b q below above = λ i. stands_above-insert g p b q below i || stands_below-insert g p b q above i

pub is_shut-insert_same : (g : Ground) (p : Names) (b : List ℕ) → is_shut (insert g p b) p ≡ is_shut g p
is_shut-insert_same g p b = is_shut-insert g p b p (is_above-itself p) (is_above-itself p)

pub is_shut-insert_apart : (g : Ground) (p : Names) (b : List ℕ) (q : Names) → IsApart p q → is_shut (insert g p b) q ≡ is_shut g q
is_shut-insert_apart g p b q apart = is_shut-insert g p b q (none_above p q apart.below) (none_above q p apart.above)

pub stands_below-remove : (g : Ground) (p q : Names) → is_above q p ≡ false → stands_below (remove g p) q ≡ stands_below g q
unfolding stands_below
stands_below-remove g p q away = any-remove (is_above q) g p away

pub stands_above-remove : (g : Ground) (p q : Names) → is_above p q ≡ false → stands_above (remove g p) q ≡ stands_above g q
unfolding stands_above
stands_above-remove g p q away = any-remove (λ r. is_above r q) g p away

pub is_shut-remove : (g : Ground) (p q : Names) → is_above p q ≡ false → is_above q p ≡ false → is_shut (remove g p) q ≡ is_shut g q
is_shut-remove g p q below above = λ i. stands_above-remove g p q below i || stands_below-remove g p q above i

pub is_shut-remove_same : (g : Ground) (p : Names) → is_shut (remove g p) p ≡ is_shut g p
is_shut-remove_same g p = is_shut-remove g p p (is_above-itself p) (is_above-itself p)

pub is_shut-remove_apart : (g : Ground) (p q : Names) → IsApart p q → is_shut (remove g p) q ≡ is_shut g q
is_shut-remove_apart g p q apart = is_shut-remove g p q (none_above p q apart.below) (none_above q p apart.above)

-- an insertion opens no place, a removal shuts none
pub is_shut-insert_stood : (g : Ground) (p : Names) (b : List ℕ) (q : Names) → is_shut g q ≡ true → is_shut (insert g p b) q ≡ true
is_shut-insert_stood g p b q h = let k = is_shut-file g q h in is_shut-by (insert g p b) q k.0 (file_at-insert_stood g p b k.0 k.1) k.2

pub stands_below-remove_stood : (g : Ground) (p q : Names) → stands_below (remove g p) q ≡ true → stands_below g q ≡ true
stands_below-remove_stood g p q h = let k = stands_below-file (remove g p) q h in stands_below-by g q k.0 (file_at-remove_stood g p k.0 k.1) k.2

pub stands_above-remove_stood : (g : Ground) (p q : Names) → stands_above (remove g p) q ≡ true → stands_above g q ≡ true
stands_above-remove_stood g p q h = let k = stands_above-file (remove g p) q h in stands_above-by g q k.0 (file_at-remove_stood g p k.0 k.1) k.2

pub is_shut-remove_stood : (g : Ground) (p q : Names) → is_shut (remove g p) q ≡ true → is_shut g q ≡ true
is_shut-remove_stood g p q h = let k = is_shut-file (remove g p) q h in is_shut-by g q k.0 (file_at-remove_stood g p k.0 k.1) k.2

pub is_shut-remove_open : (g : Ground) (p q : Names) → is_shut g q ≡ false → is_shut (remove g p) q ≡ false
is_shut-remove_open g p q h = false_from_ne_true (is_shut (remove g p) q) (λ shut. false≢true (sym h ∙ is_shut-remove_stood g p q shut))

-- below an open place where no file stands, each place is open and has no file
pub open_under : (g : Ground) (p q : Names) → is_shut g p ≡ false → stands g p ≡ false → IsAtOrAbove p q → is_shut g q ≡ false
open_under g p q shut free under = is_shut-none g q (λ r some near. away r some near)
  where
    here : (r : Names) → IsSome (file_at g r) → r ≢ p
    here r some e = false≢true (sym free ∙ ap (stands g) (sym e) ∙ some)

    away : (r : Names) → IsSome (file_at g r) → IsAbove r q ⊎ IsAbove q r → ⊥
    away r some (inr below) = none_shuts g p shut r some (inr (at_or_above-above p q r under below))
    away r some (inl above) = elim (compare_above r p q above under) [
      | inl up ↦ none_shuts g p shut r some (inl up)
      | inr (inl e) ↦ here r some e
      | inr (inr down) ↦ none_shuts g p shut r some (inr down)
    ]

-- A GROUND STAYS A GROUND
pub IsGround-open : (g : Ground) (p : Names) → IsGround g → IsSome (file_at g p) → is_shut g p ≡ false
IsGround-open g p clash_free some = is_shut-none g p (λ q there near. by q there near)
  where
    by : (q : Names) → IsSome (file_at g q) → IsAbove q p ⊎ IsAbove p q → ⊥
    by q there (inl above) = clash_free q p there some above
    by q there (inr below) = clash_free p q some there below

pub IsGround-insert : (g : Ground) (p : Names) (b : List ℕ) → IsGround g → is_shut g p ≡ false → IsGround (insert g p b)
IsGround-insert g p b clash_free free a c some_a some_c above = elim (cases_place a p) [
  | inl a_is ↦ elim (cases_place c p) [
    | inl c_is ↦ not_above_itself p (subst (λ (q : Names). IsAbove p q) c_is (subst (λ (q : Names). IsAbove q c) a_is above))
    | inr c_other ↦ none_shuts g p free c (stood c c_other some_c) (inr (subst (λ (q : Names). IsAbove q c) a_is above))
  ]
  | inr a_other ↦ elim (cases_place c p) [
    | inl c_is ↦ none_shuts g p free a (stood a a_other some_a) (inl (subst (λ (q : Names). IsAbove a q) c_is above))
    | inr c_other ↦ clash_free a c (stood a a_other some_a) (stood c c_other some_c) above
  ]
]
  where
    stood : (q : Names) → q ≢ p → IsSome (file_at (insert g p b) q) → IsSome (file_at g q)
    stood q apart some = sym (ap is_some (file_at-insert_other g p b q apart)) ∙ some

-- no file lies above another exactly where none is in the way of another
pub IsGround-by : (g : Ground) → ((p : Names) → IsSome (file_at g p) → is_shut g p ≡ false) → IsGround g
IsGround-by g free a c some_a some_c above = none_shuts g c (free c some_c) a some_a (inl above)

-- in place of a file
pub IsGround-insert_over : (g : Ground) (p : Names) (b : List ℕ) → IsGround g → IsSome (file_at g p) → IsGround (insert g p b)
IsGround-insert_over g p b clash_free some = IsGround-insert g p b clash_free (IsGround-open g p clash_free some)

pub IsGround-remove : (g : Ground) (p : Names) → IsGround g → IsGround (remove g p)
IsGround-remove g p clash_free a c some_a some_c above = clash_free a c (file_at-remove_stood g p a some_a) (file_at-remove_stood g p c some_c) above

pub IsGround-empty : IsGround empty
IsGround-empty a c some_a some_c above = false≢true (sym (ap is_some (get-empty names_cmp a)) ∙ some_a)
