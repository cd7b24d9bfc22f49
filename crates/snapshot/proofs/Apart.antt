-- Which paths of a sorted list are above another one.
use Rattle.std.proofs.Common.{◌≡◌, ℕ, zero, suc, ◌+◌, ◌<◌, ◌≤◌, Bool, true, false, inl, inr, ⊎_elim, List, [], ◌∷◌, ◌++◌, length, get_or, refl, sym, ap, subst, ◌∙◌, arith, append_assoc}
use Rattle.std.proofs.Common.{Option, Some, None}
use Rattle.std.specs.Prelude.{◌↔◌, IsTrue, MatchOption, is_some}
use denote.Ref.{Bor}
use Rattle.std.specs.Cmp.Lexicographic.{slice_cmp}
use Rattle.std.specs.List.Sorted.{IsPartitionPoint, IsPartitionedBy}
use Rattle.std.specs.Ordering.{nat_cmp, is_lt}
use Rattle.std.proofs.lemmas.Bool.{cases_lt, false≢true}
use Rattle.places.specs.All.{slash}
use Rattle.snapshot.specs.Order.{Below, Each, IsSorted, Has, HasBelow, HasNoClash, IsLeastClash}
use Rattle.snapshot.specs.declared.entries.Entry.{Entry}
use Rattle.snapshot.proofs.Order.{from_cmp, to_cmp, not_below_itself}

pub below_trans : (x y z : List ℕ) → Below x y → Below y z → Below x z
below_trans [] [] z h k = absurd h
below_trans [] (b ∷ y) [] h k = absurd k
below_trans [] (b ∷ y) (c ∷ z) h k = tt
below_trans (a ∷ x) [] z h k = absurd h
below_trans (a ∷ x) (b ∷ y) [] h k = absurd k
below_trans (a ∷ x) (b ∷ y) (c ∷ z) (inl h) (inl k) = inl (omega arith)
below_trans (a ∷ x) (b ∷ y) (c ∷ z) (inl h) (inr (e, k)) = inl (omega arith)
below_trans (a ∷ x) (b ∷ y) (c ∷ z) (inr (e, h)) (inl k) = inl (omega arith)
below_trans (a ∷ x) (b ∷ y) (c ∷ z) (inr (e, h)) (inr (e', k)) = inr (e ∙ e', below_trans x y z h k)

not_below_front : (q rest : List ℕ) → Below (q ++ rest) q → ⊥
not_below_front [] [] h = h
not_below_front [] (b ∷ rest) h = h
not_below_front (a ∷ q) rest (inl lt) = omega arith
not_below_front (a ∷ q) rest (inr (e, more)) = not_below_front q rest more

starts : (front x rest : List ℕ) → (Below x front → ⊥) → Below x (front ++ rest) → (r : List ℕ) × (x ≡ front ++ r)
starts [] x rest out h = (x, refl)
starts (a ∷ front) [] rest out h = absurd (out tt)
starts (a ∷ front) (c ∷ x) rest out (inl lt) = absurd (out (inl lt))
starts (a ∷ front) (c ∷ x) rest out (inr (e, more)) =
    let found = starts front x rest (λ b. out (inr (e, b))) more in
    (found.0, ap (λ (z : ℕ). z ∷ x) e ∙ ap (λ (z : List ℕ). a ∷ z) found.1)

-- ---- by index
pub record Place (list : List Entry) (e : Entry) : Type 0 where
  pub k : ℕ
  pub within : k < length list
  pub at : (d : Entry) → get_or list k d ≡ e

pub place_of : (list : List Entry) (e : Entry) → Has list e → Place list e
place_of [] e h = absurd h
place_of (x ∷ list) e (inl same) = record { k = 0; within = omega arith; at = λ d. same }
place_of (x ∷ list) e (inr h) =
    let p = place_of list e h in
    record { k = suc p.k; within = omega (arith, p.within); at = p.at }

pub has_at : (list : List Entry) (k : ℕ) (d : Entry) → k < length list → Has list (get_or list k d)
has_at [] k d lt = absurd (omega arith)
has_at (x ∷ list) zero d lt = inl refl
has_at (x ∷ list) (suc k) d lt = inr (has_at list k d (omega arith))

pub each_get : (P : Entry → Type 0) (list : List Entry) (k : ℕ) (d : Entry) → Each P list → k < length list → P (get_or list k d)
each_get P [] k d h lt = absurd (omega arith)
each_get P (x ∷ list) zero d h lt = h.0
each_get P (x ∷ list) (suc k) d h lt = each_get P list k d h.1 (omega arith)

pub sorted_at : (list : List Entry) (i j : ℕ) (d : Entry) → IsSorted list → i < j → j < length list → Below (get_or list i d).path (get_or list j d).path
sorted_at [] i j d h lt within = absurd (omega arith)
sorted_at (x ∷ list) i zero d h lt within = absurd (omega arith)
sorted_at (x ∷ list) zero (suc j) d h lt within = each_get (λ f. Below x.path f.path) list j d h.0 (omega arith)
sorted_at (x ∷ list) (suc i) (suc j) d h lt within = sorted_at list i j d h.1 (omega arith) (omega arith)

-- ---- what comes before a directory
abbrev pub before_dir : List ℕ → Entry → Bool
before_dir q e = is_lt (slice_cmp nat_cmp e.path (q ++ slash ∷ []))

pub partitioned : (list : List Entry) (q : List ℕ) → IsSorted list → IsPartitionedBy (before_dir q) list
partitioned list q sorted i j d le lt h =
    ⊎_elim
    (λ below. to_cmp (get_or list i d).path (q ++ slash ∷ [])
    (below_trans (get_or list i d).path (get_or list j d).path (q ++ slash ∷ []) (sorted_at list i j d sorted below lt) (from_cmp (get_or list j d).path (q ++ slash ∷ []) h)))
    (λ above. let same : j ≡ i = omega arith in subst (λ (n : ℕ). before_dir q (get_or list n d) ≡ true) same h)
    (cases_lt i j)

pub none_found : (list : List Entry) (q : List ℕ) (at : ℕ) (d : Entry) → IsSorted list → IsPartitionPoint (λ y. before_dir q y ≡ true) (λ y. before_dir q y ≡ false) list at
    → (at < length list → (rest : List ℕ) → (get_or list at d).path ≡ q ++ slash ∷ rest → ⊥) → HasBelow list q → ⊥
none_found list q at d sorted point no_first (f, has, (rest, path)) =
    let p = place_of list f has in
    let front = q ++ slash ∷ [] in
    let here : (get_or list p.k d).path ≡ front ++ rest = ap (λ (z : Entry). z.path) (p.at d) ∙ path ∙ sym (append_assoc q (slash ∷ []) rest) in
    ⊎_elim
    (λ low. not_below_front front rest (subst (λ (z : List ℕ). Below z front) here (from_cmp (get_or list p.k d).path front (point.0 p.k d (omega arith) low))))
    (λ high. ⊎_elim
    (λ later.
    let x = (get_or list at d).path in
    let out : Below x front → ⊥ = λ b. false≢true (sym (point.1 at d (omega arith) (omega (arith, p.within, later))) ∙ to_cmp x front b) in
    let less = subst (λ (z : List ℕ). Below x z) here (sorted_at list at p.k d sorted later p.within) in
    let found = starts front x rest out less in
    no_first (omega (arith, p.within, later)) found.0 (found.1 ∙ append_assoc q (slash ∷ []) found.0))
    (λ not_later.
    let same : p.k ≡ at = omega arith in
    no_first (omega (arith, p.within)) rest (subst (λ (n : ℕ). (get_or list n d).path ≡ q ++ slash ∷ rest) same (here ∙ append_assoc q (slash ∷ []) rest)))
    (cases_lt at p.k))
    (cases_lt p.k at)

-- ---- over the whole list
pub no_clash_left : (list : List Entry) (n : ℕ) → length list ≤ n → ((k : ℕ) (d : Entry) → k < n → HasBelow list (get_or list k d).path → ⊥) → HasNoClash list
no_clash_left list n le none e f rest h k same =
    let p = place_of list e h in
    none p.k e (omega (arith, p.within)) (f, k, (rest, same ∙ ap (λ (z : Entry). z.path ++ slash ∷ rest) (sym (p.at e))))

pub least : (list : List Entry) (n : ℕ) (d : Entry) (path : List ℕ) → IsSorted list → n < length list → path ≡ (get_or list n d).path → ((k : ℕ) (d : Entry) → k < n → HasBelow list (get_or list k d).path → ⊥) → HasBelow list (get_or list n d).path → IsLeastClash list path
least list n d path sorted lt is none found = record {
  entry = get_or list n d;
  has = has_at list n d lt;
  same = sym is;
  below = subst (HasBelow list) (sym is) found;
  least = λ e h below clash.
      let p = place_of list e h in
      let at : (get_or list p.k d).path ≡ e.path = ap (λ (z : Entry). z.path) (p.at d) in
      ⊎_elim (λ low. none p.k d low (subst (HasBelow list) (sym at) clash))
      (λ high. ⊎_elim
      (λ later. not_below_itself e.path (below_trans e.path path e.path below (subst (λ (z : List ℕ). Below path z) at (subst (λ (z : List ℕ). Below z (get_or list p.k d).path) (sym is) (sorted_at list n p.k d sorted later p.within)))))
      (λ not_later.
      let same : p.k ≡ n = omega arith in
      not_below_itself path (subst (λ (z : List ℕ). Below z path) (sym at ∙ ap (λ (m : ℕ). (get_or list m d).path) same ∙ sym is) below))
      (cases_lt n p.k))
      (cases_lt p.k n);
}

-- ---- the answers of the code
pub found_or_not : (list : List Entry) (q : List ℕ) (at : ℕ) (x : Entry) (r : Option (Bor (List ℕ))) (b : Bool) → IsSorted list → IsPartitionPoint (λ y. before_dir q y ≡ true) (λ y. before_dir q y ≡ false) list at → at < length list → x ≡ get_or list at x
    → MatchOption r ((rest : List ℕ) → x.path ≡ q ++ slash ∷ rest → ⊥) (λ rest. x.path ≡ q ++ slash ∷ rest.now) → b ≡ is_some r → IsTrue b ↔ HasBelow list q
found_or_not list q at x None b sorted point lt is none said = (
  λ t. absurd (false≢true (sym said ∙ t)),
  λ has. absurd (none_found list q at x sorted point (λ lt rest e. none rest (ap (λ (z : Entry). z.path) is ∙ e)) has),
)
found_or_not list q at x (Some rest) b sorted point lt is path said = (
  λ t. (x, subst (Has list) (sym is) (has_at list at x lt), (rest.now, path)),
  λ has. said,
)

pub past_all : (list : List Entry) (q : List ℕ) (at : ℕ) → IsSorted list → IsPartitionPoint (λ y. before_dir q y ≡ true) (λ y. before_dir q y ≡ false) list at → length list ≤ at → HasBelow list q → ⊥
past_all list q at sorted point over (f, has, more) = none_found list q at f sorted point (λ lt rest e. omega arith) (f, has, more)

get_same : (list : List Entry) (n : ℕ) (d x : Entry) → n < length list → get_or list n d ≡ get_or list n x
get_same [] n d x lt = absurd (omega arith)
get_same (y ∷ list) zero d x lt = refl
get_same (y ∷ list) (suc n) d x lt = get_same list n d x (omega arith)

pub one_more : (list : List Entry) (n : ℕ) (x : Entry) → x ≡ get_or list n x → (HasBelow list x.path → ⊥) → n < length list → ((k : ℕ) (d : Entry) → k < n → HasBelow list (get_or list k d).path → ⊥)
    → (k : ℕ) (d : Entry) → k < n + 1 → HasBelow list (get_or list k d).path → ⊥
one_more list n x is none lt before k d low has =
    ⊎_elim (λ less. before k d less has)
    (λ more.
    let same : k ≡ n = omega arith in
    none (subst (λ (z : Entry). HasBelow list z.path) (ap (λ (m : ℕ). get_or list m d) same ∙ get_same list n d x lt ∙ sym is) has))
    (cases_lt k n)
