-- What a map in memory has, as a ground.
use Rattle.std.proofs.Common.{◌≡◌, ◌⊎◌, inl, inr, ℕ, Bool, true, false, cond, ◌||◌, List, [], ◌∷◌, Option, Some, None, refl, sym, ◌∙◌, ap}
use Rattle.std.specs.Prelude.{Vec, option_map, IsSome, is_some}
use Rattle.std.specs.declared.alloc.Global.{Global}
use Rattle.std.specs.List.{list_any}
use Rattle.std.specs.Map.{lookup, keys_of}
use Rattle.std.specs.BTreeMap.{BTreeMap, is_at, Updates, UpdatesBy}
use Rattle.std.specs.FinMap.{insert, remove, keys, get-empty}
use Rattle.std.proofs.lemmas.Bool.{false≢true, or_cases, or_parts}
use Rattle.places.specs.All.{Names, IsAbove, is_above, place_cmp, place_eq, names_cmp, Ground}
use Rattle.places.specs.All.{file_at, stands_below, is_shut}
use Rattle.places.proofs.Ties.{place_eq-cmp}
use Rattle.places.proofs.Above.{is_above-sound, is_above-complete}
use Rattle.places.proofs.Grammar.{or_either, or_left, or_right}
use Rattle.places.proofs.Grounds.{cases_place, same, other, file_at-insert, file_at-insert_same, file_at-insert_other, file_at-remove, same_ground}
use Rattle.places.proofs.Standing.{any_key, key_any, same_truth, is_shut-file, is_shut-by}
use Rattle.file_store.specs.Memory.Lists.{ground_of}

abbrev pub Entries : Type 0
Entries = List (Names × Vec ℕ Global)

abbrev pub bytes_of : Option (Vec ℕ Global) → Option (List ℕ)
bytes_of file = option_map (λ v. v.items) file

bytes_of-cond : (b : Bool) (v : Vec ℕ Global) (o : Option (Vec ℕ Global)) → bytes_of (cond b (Some v) o) ≡ cond b (Some v.items) (bytes_of o)
bytes_of-cond true v o = refl
bytes_of-cond false v o = refl

-- a look-up in the map finds what stands
pub file_at-ground_of : (es : Entries) (q : Names) → file_at (ground_of es) q ≡ bytes_of (lookup (is_at (place_cmp q)) es)
file_at-ground_of [] q = get-empty names_cmp q
file_at-ground_of (e ∷ es) q =
    file_at-insert (ground_of es) e.0 e.1.items q
    ∙ ap (λ b. cond b (Some e.1.items) (file_at (ground_of es) q)) (place_eq-cmp q e.0)
    ∙ ap (λ o. cond (is_at (place_cmp q) e.0) (Some e.1.items) o) (file_at-ground_of es q)
    ∙ sym (bytes_of-cond (is_at (place_cmp q) e.0) e.1 (lookup (is_at (place_cmp q)) es))

module _ (p : Names) (q : Names) where
  turned : place_eq p q ≡ place_eq q p
  turned = elim (cases_place p q) [
    | inl is ↦ same p q is ∙ sym (same q p (sym is))
    | inr apart ↦ other p q apart ∙ sym (other q p (λ e. apart (sym e)))
  ]

  pub at_place : is_at (place_cmp p) q ≡ place_eq q p
  at_place = sym (place_eq-cmp p q) ∙ turned

pub inserted : (m n : BTreeMap Names (Vec ℕ Global)) (p : Names) (v : Vec ℕ Global) → Updates place_cmp m n p (Some v) → ground_of n.entries ≡ insert (ground_of m.entries) p v.items
inserted m n p v updates = same_ground _ _ (λ q.
    file_at-ground_of n.entries q
    ∙ ap bytes_of (updates.0 q)
    ∙ bytes_of-cond (is_at (place_cmp p) q) v _
    ∙ ap (λ b. cond b (Some v.items) (bytes_of (lookup (is_at (place_cmp q)) m.entries))) (at_place p q)
    ∙ ap (λ o. cond (place_eq q p) (Some v.items) o) (sym (file_at-ground_of m.entries q))
    ∙ sym (file_at-insert (ground_of m.entries) p v.items q))

bytes_of-none : (b : Bool) (o : Option (Vec ℕ Global)) → bytes_of (cond b None o) ≡ cond b None (bytes_of o)
bytes_of-none true o = refl
bytes_of-none false o = refl

pub taken : (m n : BTreeMap Names (Vec ℕ Global)) (p : Names) → UpdatesBy place_cmp (place_cmp p) m n None → ground_of n.entries ≡ remove (ground_of m.entries) p
taken m n p updates = same_ground _ _ (λ q.
    file_at-ground_of n.entries q
    ∙ ap bytes_of (updates.0 q)
    ∙ bytes_of-none (is_at (place_cmp p) q) _
    ∙ ap (λ b. cond b None (bytes_of (lookup (is_at (place_cmp q)) m.entries))) (at_place p q)
    ∙ ap (λ o. cond (place_eq q p) None o) (sym (file_at-ground_of m.entries q))
    ∙ sym (file_at-remove (ground_of m.entries) p q))

-- A TEST OF ALL PLACES: a file that passes it stands
found : (es : Entries) (test : Names → Bool) → list_any test (keys_of es) ≡ true → (q : Names) × IsSome (file_at (ground_of es) q) × (test q ≡ true)
found [] test any = absurd (false≢true any)
found (e ∷ es) test any = elim (or_cases (test e.0) (list_any test (keys_of es)) any) [
  | inl here ↦ (e.0, ap is_some (file_at-insert_same (ground_of es) e.0 e.1.items e.0 refl), here)
  | inr there ↦
      let f = found es test there in (
        f.0,
        elim (cases_place f.0 e.0) [
          | inl is ↦ ap is_some (file_at-insert_same (ground_of es) e.0 e.1.items f.0 is)
          | inr apart ↦ ap is_some (file_at-insert_other (ground_of es) e.0 e.1.items f.0 apart) ∙ f.1
        ],
        f.2,
      )
]

none : (es : Entries) (test : Names → Bool) → list_any test (keys_of es) ≡ false → (q : Names) → IsSome (file_at (ground_of es) q) → test q ≡ false
none [] test any q some = absurd (false≢true (sym (ap is_some (get-empty names_cmp q)) ∙ some))
none (e ∷ es) test any q some =
    let parts = or_parts (test e.0) (list_any test (keys_of es)) any in
    elim (cases_place q e.0) [
      | inl is ↦ ap test is ∙ parts.0
      | inr apart ↦ none es test parts.1 q (sym (ap is_some (file_at-insert_other (ground_of es) e.0 e.1.items q apart)) ∙ some)
    ]

-- the entries pass it where the ground's files do
pub any-entries : (es : Entries) (test : Names → Bool) → list_any test (keys_of es) ≡ list_any test (keys (ground_of es))
any-entries es test = same_truth _ _
    (λ h. let f = found es test h in any_key test (ground_of es) f.0 f.2 f.1)
    (λ h. let k = key_any test (ground_of es) h in by (list_any test (keys_of es)) refl k.0 k.1 k.2)
  where
    by : (b : Bool) → list_any test (keys_of es) ≡ b → (q : Names) → test q ≡ true → IsSome (file_at (ground_of es) q) → list_any test (keys_of es) ≡ true
    by true e q passes some = e
    by false e q passes some = absurd (cc (none es test e q some, passes))

near : (p q : Names) → (is_above q p || is_above p q) ≡ true → IsAbove q p ⊎ IsAbove p q
near p q h = elim (or_either (is_above q p) (is_above p q) h) [
  | inl above ↦ inl (is_above-sound q p above)
  | inr below ↦ inr (is_above-sound p q below)
]

near_test : (p q : Names) → IsAbove q p ⊎ IsAbove p q → (is_above q p || is_above p q) ≡ true
near_test p q (inl above) = or_left (is_above q p) (is_above p q) (is_above-complete q p above)
near_test p q (inr below) = or_right (is_above q p) (is_above p q) (is_above-complete p q below)

pub is_shut-any : (g : Ground) (p : Names) → list_any (λ q. is_above q p || is_above p q) (keys g) ≡ is_shut g p
is_shut-any g p = same_truth _ _
    (λ h. let k = key_any (λ q. is_above q p || is_above p q) g h in is_shut-by g p k.0 k.2 (near p k.0 k.1))
    (λ h. let k = is_shut-file g p h in any_key (λ q. is_above q p || is_above p q) g k.0 (near_test p k.0 k.2) k.1)

pub stands_below-any : (g : Ground) (p : Names) → list_any (is_above p) (keys g) ≡ stands_below g p
unfolding stands_below
stands_below-any g p = refl
