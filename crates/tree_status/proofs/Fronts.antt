-- Texts that begin paths, and the order of what they begin.
use Rattle.std.proofs.Common.{◌≡◌, ℕ, Bool, true, false, List, [], ◌∷◌, ◌++◌, refl, sym, ap, ◌∙◌, append_assoc, append-nil, arith}
use Rattle.std.specs.Prelude.{◌==◌}
use Rattle.std.specs.List.{list_any}
use Rattle.std.specs.declared.cmp.Ordering.{Ordering}
use Rattle.std.specs.declared.cmp.Ordering.TheVariants.{Less, Equal, Greater}
use Rattle.std.specs.Ordering.{nat_cmp, ordering_then}
use Rattle.std.specs.Cmp.Lexicographic.{slice_cmp}
use Rattle.std.specs.FinMap.{nat_cmp-IsAntisymmetric}
use Rattle.std.proofs.lemmas.Bool.{false≢true, false_from_ne_true}
use Rattle.places.specs.All.{slash}
use Rattle.places.proofs.Texts.{or_neither}
use Rattle.tree_status.specs.Walks.{is_front}
use Rattle.tree_status.proofs.Paths.{NameFacts}
use Rattle.tree_status.proofs.Tasks.{ending}

-- A SLASH at the end
pub front_ends : (t : List ℕ) → is_front (t ++ slash ∷ []) ≡ true
front_ends [] = refl
front_ends (x ∷ []) = refl
front_ends (x ∷ y ∷ t) = front_ends (y ∷ t)

front_whole : (n : List ℕ) → list_any (λ b. b == slash) n ≡ false → is_front n ≡ false
front_whole [] h = refl
front_whole (x ∷ []) h = (or_neither (x == slash) false h).0
front_whole (x ∷ y ∷ n) h = front_whole (y ∷ n) (or_neither (x == slash) (list_any (λ b. b == slash) (y ∷ n)) h).1

front_after : (a : List ℕ) (x : ℕ) (n : List ℕ) → is_front (a ++ x ∷ n) ≡ is_front (x ∷ n)
front_after [] x n = refl
front_after (y ∷ []) x n = refl
front_after (y ∷ z ∷ a) x n = front_after (z ∷ a) x n

pub name_no_front : (a n : List ℕ) → NameFacts n → is_front (a ++ n) ≡ false
name_no_front a [] h = absurd (cc h.filled)
name_no_front a (x ∷ n) h = front_after a x n ∙ front_whole (x ∷ n) h.whole

pub inside_front : (a n : List ℕ) → is_front (a ++ (n ++ slash ∷ [])) ≡ true
inside_front a n = ap is_front (sym (append_assoc a n (slash ∷ []))) ∙ front_ends (a ++ n)

front_split : (t : List ℕ) → is_front t ≡ true → (front : List ℕ) × (t ≡ front ++ slash ∷ [])
front_split [] h = absurd (cc h)
front_split (x ∷ []) h = let same : x ≡ slash = grind (arith, h) in ([], λ i. same i ∷ [])
front_split (x ∷ y ∷ t) h = let rest = front_split (y ∷ t) h in (x ∷ rest.0, λ i. x ∷ rest.1 i)

pub no_front : (t : List ℕ) → ((front : List ℕ) → t ≡ front ++ slash ∷ [] → ⊥) → is_front t ≡ false
no_front t none = false_from_ne_true (is_front t) (λ h. let s = front_split t h in none s.0 s.1)

-- THE ORDER
step : (o a b : Ordering) → ordering_then o a ≡ Less → (o ≡ Equal → a ≡ Less → b ≡ Less) → ordering_then o b ≡ Less
step Less a b h f = refl
step Equal a b h f = f refl h
step Greater a b h f = absurd (cc h)

less_more : (a b s : List ℕ) → slice_cmp nat_cmp a b ≡ Less → slice_cmp nat_cmp a (b ++ s) ≡ Less
less_more [] [] s h = absurd (cc h)
less_more [] (y ∷ b) s h = refl
less_more (x ∷ a) [] s h = absurd (cc h)
less_more (x ∷ a) (y ∷ b) s h = step (nat_cmp x y) (slice_cmp nat_cmp a b) (slice_cmp nat_cmp a (b ++ s)) h (λ _ k. less_more a b s k)

no_slash : (x : ℕ) (n : List ℕ) → list_any (λ b. b == slash) (x ∷ n) ≡ false → x ≡ slash → ⊥
no_slash x n whole is = false≢true (sym (or_neither (x == slash) (list_any (λ b. b == slash) n) whole).0 ∙ ap (λ (z : ℕ). z == slash) is)

whole_tail : (x : ℕ) (n : List ℕ) → list_any (λ b. b == slash) (x ∷ n) ≡ false → list_any (λ b. b == slash) n ≡ false
whole_tail x n whole = (or_neither (x == slash) (list_any (λ b. b == slash) n) whole).1

less_inside : (n m : List ℕ) (inside : Bool) (r s : List ℕ) → list_any (λ b. b == slash) n ≡ false → list_any (λ b. b == slash) m ≡ false
    → slice_cmp nat_cmp (n ++ slash ∷ []) (m ++ ending inside) ≡ Less → slice_cmp nat_cmp ((n ++ slash ∷ []) ++ r) ((m ++ ending inside) ++ s) ≡ Less
less_inside [] [] true r s h k e = absurd (cc e)
less_inside [] [] false r s h k e = absurd (cc e)
less_inside [] (y ∷ m) inside r s h k e =
    step (nat_cmp slash y) (slice_cmp nat_cmp [] (m ++ ending inside)) (slice_cmp nat_cmp r ((m ++ ending inside) ++ s)) e (λ same _. absurd (no_slash y m k (sym (nat_cmp-IsAntisymmetric slash y same))))
less_inside (x ∷ n) [] true r s h k e =
    step (nat_cmp x slash) (slice_cmp nat_cmp (n ++ slash ∷ []) []) (slice_cmp nat_cmp ((n ++ slash ∷ []) ++ r) s) e (λ same _. absurd (no_slash x n h (nat_cmp-IsAntisymmetric x slash same)))
less_inside (x ∷ n) [] false r s h k e = absurd (cc e)
less_inside (x ∷ n) (y ∷ m) inside r s h k e =
    step (nat_cmp x y) (slice_cmp nat_cmp (n ++ slash ∷ []) (m ++ ending inside)) (slice_cmp nat_cmp ((n ++ slash ∷ []) ++ r) ((m ++ ending inside) ++ s)) e
    (λ _ rest. less_inside n m inside r s (whole_tail x n h) (whole_tail y m k) rest)

-- what two keys begin is in their order
pub key_less : (n m : List ℕ) (deep inside : Bool) (r s : List ℕ) → list_any (λ b. b == slash) n ≡ false → list_any (λ b. b == slash) m ≡ false → (deep ≡ false → r ≡ [])
    → slice_cmp nat_cmp (n ++ ending deep) (m ++ ending inside) ≡ Less → slice_cmp nat_cmp ((n ++ ending deep) ++ r) ((m ++ ending inside) ++ s) ≡ Less
key_less n m true inside r s h k one e = less_inside n m inside r s h k e
key_less n m false inside r s h k one e =
    ap (λ (z : List ℕ). slice_cmp nat_cmp ((n ++ []) ++ z) ((m ++ ending inside) ++ s)) (one refl)
    ∙ ap (λ (z : List ℕ). slice_cmp nat_cmp z ((m ++ ending inside) ++ s)) (append-nil (n ++ []))
    ∙ less_more (n ++ []) (m ++ ending inside) s e
