-- Which line counts, by recursion on the lines.
use Rattle.std.proofs.Common.{◌≡◌, ℕ, zero, suc, ◌+◌, ◌<◌, ◌≤◌, Bool, true, false, List, [], ◌∷◌, ◌++◌, length, take, get_or, Option, Some, None, inl, inr, refl, sym, ap, ◌∙◌, subst, arith}
use Rattle.std.specs.Prelude.{◌↔◌, ◌⊎◌, IsTrue, MatchOption, bytes_eq}
use Rattle.std.specs.List.{Contains}
use Rattle.std.specs.Ordering.{is_lt}
use Rattle.std.proofs.lemmas.Bool.{cases_Bool, cond-false, cond-true, false≢true}
use Rattle.std.proofs.lemmas.List.{take_all, take_more}
use Rattle.std.proofs.lemmas.Slice.Eq.{bytes_eq-Decides}
use Rattle.location_log.specs.declared.lines.Claim.TheVariants.{Present}
use Rattle.location_log.specs.Counting.{Counts, HasNone, IsPresent}
use Rattle.location_log.specs.Plain.{PlainLine}
use Rattle.location_log.specs.Steps.{better_of, rank_cmp}
use Rattle.location_log.proofs.Orders.{kept, keeps, neither, rank_self, rank_weak}

-- ---- which lines there are
abbrev pub In : PlainLine → List PlainLine → Type 0
In l [] = ⊥
In l (x ∷ xs) = (x ≡ l) ⊎ In l xs

pub in_contains : (l : PlainLine) (xs : List PlainLine) → In l xs → Contains xs l
in_contains l [] h = absurd h
in_contains l (x ∷ xs) (inl e) = (0, omega arith, e)
in_contains l (x ∷ xs) (inr h) =
    let k = in_contains l xs h in
    let lt = k.1 in
    (suc k.0, omega arith, k.2)

pub contains_in : (l : PlainLine) (xs : List PlainLine) → Contains xs l → In l xs
contains_in l xs h = at xs h.0 h.1 h.2
  where
    at : (xs : List PlainLine) (k : ℕ) → k < length xs → get_or xs k l ≡ l → In l xs
    at [] k lt e = absurd (omega arith)
    at (x ∷ xs) zero lt e = inl e
    at (x ∷ xs) (suc k) lt e = inr (at xs k (omega arith) e)

pub in-append : (l : PlainLine) (xs ys : List PlainLine) → In l (xs ++ ys) → In l xs ⊎ In l ys
in-append l [] ys h = inr h
in-append l (x ∷ xs) ys (inl e) = inl (inl e)
in-append l (x ∷ xs) ys (inr h) = elim (in-append l xs ys h) [ inl a ↦ inl (inr a) | inr b ↦ inr b ]

pub in_left : (l : PlainLine) (xs ys : List PlainLine) → In l xs → In l (xs ++ ys)
in_left l [] ys h = absurd h
in_left l (x ∷ xs) ys (inl e) = inl e
in_left l (x ∷ xs) ys (inr h) = inr (in_left l xs ys h)

pub in_right : (l : PlainLine) (xs ys : List PlainLine) → In l ys → In l (xs ++ ys)
in_right l [] ys h = h
in_right l (x ∷ xs) ys h = inr (in_right l xs ys h)

-- ---- which counts
abbrev pub NoneOf : List PlainLine → List ℕ → Type 0
NoneOf xs u = (o : PlainLine) → In o xs → o.uuid ≡ u → ⊥

pub record BestOf (xs : List PlainLine) (u : List ℕ) (l : PlainLine) : Type 0 where
  pub within : In l xs
  pub own : l.uuid ≡ u
  pub best : (o : PlainLine) → In o xs → o.uuid ≡ u → is_lt (rank_cmp l o) ≡ false

pub best_of : (xs : List PlainLine) (u : List ℕ) (l : PlainLine) → Counts xs u l → BestOf xs u l
best_of xs u l c = record {
  within = contains_in l xs c.within;
  own = c.own;
  best = λ o h e. keeps l o (λ b. c.best o (in_contains o xs h) e b);
}

pub counts_of : (xs : List PlainLine) (u : List ℕ) (l : PlainLine) → BestOf xs u l → Counts xs u l
counts_of xs u l c = record {
  within = in_contains l xs c.within;
  own = c.own;
  best = λ o h e b. kept l o (c.best o (contains_in o xs h) e) b;
}

pub none_of : (xs : List PlainLine) (u : List ℕ) → HasNone xs u → NoneOf xs u
none_of xs u h o k e = h o (in_contains o xs k) e

pub has_none : (xs : List PlainLine) (u : List ℕ) → NoneOf xs u → HasNone xs u
has_none xs u h o k e = h o (contains_in o xs k) e

pub of_itself : (xs : List PlainLine) (u : List ℕ) (l : PlainLine) → BestOf xs u l → BestOf xs l.uuid l
of_itself xs u l c = subst (λ (z : List ℕ). BestOf xs z l) (sym c.own) c

pub best_once : (xs : List PlainLine) (u : List ℕ) (a b : PlainLine) → BestOf xs u a → BestOf xs u b → a ≡ b
best_once xs u a b c d = neither a b (c.own ∙ sym d.own) (c.best b d.within d.own) (d.best a c.within c.own)

pub self_or : (l o : PlainLine) → l ≡ o → is_lt (rank_cmp l o) ≡ false
self_or l o e = subst (λ (z : PlainLine). is_lt (rank_cmp l z) ≡ false) e (rank_self l)

-- ---- one line more
pub more_other : (x : PlainLine) (xs : List PlainLine) (u : List ℕ) (l : PlainLine) → (x.uuid ≡ u → ⊥) → BestOf xs u l → BestOf (x ∷ xs) u l
more_other x xs u l other c = record {
  within = inr c.within;
  own = c.own;
  best = λ o h e. elim h [
    | inl is ↦ absurd (other (ap (λ (z : PlainLine). z.uuid) is ∙ e))
    | inr k ↦ c.best o k e
  ];
}

pub less_other : (x : PlainLine) (xs : List PlainLine) (u : List ℕ) (l : PlainLine) → (x.uuid ≡ u → ⊥) → BestOf (x ∷ xs) u l → BestOf xs u l
less_other x xs u l other c = record {
  within = elim c.within [
    | inl is ↦ absurd (other (ap (λ (z : PlainLine). z.uuid) is ∙ c.own))
    | inr k ↦ k
  ];
  own = c.own;
  best = λ o h e. c.best o (inr h) e;
}

pub none_other : (x : PlainLine) (xs : List PlainLine) (u : List ℕ) → (x.uuid ≡ u → ⊥) → NoneOf xs u → NoneOf (x ∷ xs) u
none_other x xs u other none o h e = elim h [
  | inl is ↦ other (ap (λ (z : PlainLine). z.uuid) is ∙ e)
  | inr k ↦ none o k e
]

pub more_first : (x : PlainLine) (xs : List PlainLine) (u : List ℕ) → x.uuid ≡ u → NoneOf xs u → BestOf (x ∷ xs) u x
more_first x xs u own none = record {
  within = inl refl;
  own = own;
  best = λ o h e. elim h [
    | inl is ↦ self_or x o is
    | inr k ↦ absurd (none o k e)
  ];
}

pub more_keeps : (x : PlainLine) (xs : List PlainLine) (u : List ℕ) (l : PlainLine) → is_lt (rank_cmp l x) ≡ false → BestOf xs u l → BestOf (x ∷ xs) u l
more_keeps x xs u l stays c = record {
  within = inr c.within;
  own = c.own;
  best = λ o h e. elim h [
    | inl is ↦ subst (λ (z : PlainLine). is_lt (rank_cmp l z) ≡ false) is stays
    | inr k ↦ c.best o k e
  ];
}

pub more_better : (x : PlainLine) (xs : List PlainLine) (u : List ℕ) (l : PlainLine) → x.uuid ≡ u → is_lt (rank_cmp l x) ≡ true → BestOf xs u l → BestOf (x ∷ xs) u x
more_better x xs u l own beats c = record {
  within = inl refl;
  own = own;
  best = λ o h e. elim h [
    | inl is ↦ self_or x o is
    | inr k ↦ rank_weak.chain x l o (rank_weak.one_way l x beats) (c.best o k e)
  ];
}

-- a repository with a line has one that counts
pub some_best : (xs : List PlainLine) (u : List ℕ) → NoneOf xs u ⊎ ((l : PlainLine) × BestOf xs u l)
some_best [] u = inl (λ o h e. h)
some_best (x ∷ xs) u = elim (cases_Bool (bytes_eq x.uuid u)) [
  | inl holds ↦ inr (own ((bytes_eq-Decides x.uuid u).0 holds) (some_best xs u))
  | inr fails ↦ other (λ e. false≢true (sym fails ∙ (bytes_eq-Decides x.uuid u).1 e)) (some_best xs u)
]
  where
    own : x.uuid ≡ u → NoneOf xs u ⊎ ((l : PlainLine) × BestOf xs u l) → (l : PlainLine) × BestOf (x ∷ xs) u l
    own e (inl none) = (x, more_first x xs u e none)
    own e (inr some) = elim (cases_Bool (is_lt (rank_cmp some.0 x))) [
      | inl beats ↦ (x, more_better x xs u some.0 e beats some.1)
      | inr stays ↦ (some.0, more_keeps x xs u some.0 stays some.1)
    ]

    other : (x.uuid ≡ u → ⊥) → NoneOf xs u ⊎ ((l : PlainLine) × BestOf xs u l) → NoneOf (x ∷ xs) u ⊎ ((l : PlainLine) × BestOf (x ∷ xs) u l)
    other ne (inl none) = inl (none_other x xs u ne none)
    other ne (inr some) = inr (some.0, more_other x xs u some.0 ne some.1)

-- ---- lists with the same lines
abbrev pub SameLines : List PlainLine → List PlainLine → Type 0
SameLines xs ys = (l : PlainLine) → In l xs ↔ In l ys

pub same_best : (xs ys : List PlainLine) (u : List ℕ) (l : PlainLine) → SameLines xs ys → BestOf xs u l → BestOf ys u l
same_best xs ys u l same c = record {
  within = (same l).0 c.within;
  own = c.own;
  best = λ o h e. c.best o ((same o).1 h) e;
}

-- ---- a loop's step
abbrev pub Found : List PlainLine → List ℕ → Option PlainLine → Type 0
Found xs u found = MatchOption found (HasNone xs u) (Counts xs u)

turned : (xs : List PlainLine) (x : PlainLine) → SameLines (x ∷ xs) (xs ++ x ∷ [])
turned xs x l = (
  λ h. elim h [ inl e ↦ in_right l xs (x ∷ []) (inl e) | inr k ↦ in_left l xs (x ∷ []) k ],
  λ h. elim (in-append l xs (x ∷ []) h) [ inl k ↦ inr k | inr k ↦ elim k [ inl e ↦ inl e | inr none ↦ absurd none ] ],
)

push_own : (xs : List PlainLine) (x : PlainLine) (u : List ℕ) (found : Option PlainLine) → x.uuid ≡ u → Found xs u found → Counts (xs ++ x ∷ []) u (better_of found x)
push_own xs x u None own none =
    counts_of (xs ++ x ∷ []) u x (same_best (x ∷ xs) (xs ++ x ∷ []) u x (turned xs x) (more_first x xs u own (none_of xs u none)))
push_own xs x u (Some old) own c = elim (cases_Bool (is_lt (rank_cmp old x))) [
  | inl beats ↦
      subst (Counts (xs ++ x ∷ []) u) (sym (cond-true (is_lt (rank_cmp old x)) x old beats))
      (counts_of (xs ++ x ∷ []) u x (same_best (x ∷ xs) (xs ++ x ∷ []) u x (turned xs x) (more_better x xs u old own beats (best_of xs u old c))))
  | inr stays ↦
      subst (Counts (xs ++ x ∷ []) u) (sym (cond-false (is_lt (rank_cmp old x)) x old stays))
      (counts_of (xs ++ x ∷ []) u old (same_best (x ∷ xs) (xs ++ x ∷ []) u old (turned xs x) (more_keeps x xs u old stays (best_of xs u old c))))
]

push_other : (xs : List PlainLine) (x : PlainLine) (u : List ℕ) (found : Option PlainLine) → (x.uuid ≡ u → ⊥) → Found xs u found → Found (xs ++ x ∷ []) u found
push_other xs x u None other none =
    has_none (xs ++ x ∷ []) u (λ o h e. none_other x xs u other (none_of xs u none) o ((turned xs x o).1 h) e)
push_other xs x u (Some old) other c =
    counts_of (xs ++ x ∷ []) u old (same_best (x ∷ xs) (xs ++ x ∷ []) u old (turned xs x) (more_other x xs u old other (best_of xs u old c)))

one_more : (xs : List PlainLine) (i : ℕ) (x : PlainLine) → i < length xs → x ≡ get_or xs i x → take (i + 1) xs ≡ take i xs ++ x ∷ []
one_more xs i x lt e = take_more xs i x lt ∙ ap (λ (z : PlainLine). take i xs ++ z ∷ []) (sym e)

pub found_own : (xs : List PlainLine) (i : ℕ) (x : PlainLine) (u : List ℕ) (found new : Option PlainLine) → i < length xs → x ≡ get_or xs i x → bytes_eq x.uuid u ≡ true
    → new ≡ Some (better_of found x) → Found (take i xs) u found → Found (take (i + 1) xs) u new
found_own xs i x u found new lt e own is f =
    subst (Found (take (i + 1) xs) u) (sym is)
    (subst (λ (z : List PlainLine). Counts z u (better_of found x)) (sym (one_more xs i x lt e)) (push_own (take i xs) x u found ((bytes_eq-Decides x.uuid u).0 own) f))

pub found_other : (xs : List PlainLine) (i : ℕ) (x : PlainLine) (u : List ℕ) (found new : Option PlainLine) → i < length xs → x ≡ get_or xs i x → bytes_eq x.uuid u ≡ false
    → new ≡ found → Found (take i xs) u found → Found (take (i + 1) xs) u new
found_other xs i x u found new lt e other is f =
    subst (Found (take (i + 1) xs) u) (sym is)
    (subst (λ (z : List PlainLine). Found z u found) (sym (one_more xs i x lt e))
    (push_other (take i xs) x u found (λ same. false≢true (sym other ∙ (bytes_eq-Decides x.uuid u).1 same)) f))

pub found_all : (xs : List PlainLine) (i : ℕ) (u : List ℕ) (found : Option PlainLine) → length xs ≤ i → Found (take i xs) u found → Found xs u found
found_all xs i u found le f = subst (λ (z : List PlainLine). Found z u found) (take_all i xs le) f

-- ---- what the line that counts says
pub present_says : (xs : List PlainLine) (u : List ℕ) (l : PlainLine) (b : Bool) → Counts xs u l → IsTrue b ↔ (l.claim ≡ Present) → IsTrue b ↔ IsPresent xs u
present_says xs u l b c says = (
  λ t. record { line = l; counts = c; says = says.0 t },
  λ p. says.1 (ap (λ (z : PlainLine). z.claim) (best_once xs u l p.line (best_of xs u l c) (best_of xs u p.line p.counts)) ∙ p.says),
)

pub none_present : (xs : List PlainLine) (u : List ℕ) → HasNone xs u → IsPresent xs u → ⊥
none_present xs u none p = none p.line p.counts.within p.counts.own
