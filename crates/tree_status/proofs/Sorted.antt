-- Lists in the order of their keys, and what tests pick from them.
use Rattle.std.proofs.Common.{◌≡◌, inl, inr, Bool, true, false, cond, ◌||◌, List, [], ◌∷◌, ◌++◌, Some, refl, sym, ap, ◌∙◌}
use Rattle.std.specs.Prelude.{T}
use Rattle.std.specs.declared.cmp.Ordering.{Ordering}
use Rattle.std.specs.declared.cmp.Ordering.TheVariants.{Less, Equal, Greater}
use Rattle.std.specs.Ordering.{is_lt, is_eq, eq_by_cmp}
use Rattle.std.specs.Cmp.{IsTotalOrder}
use Rattle.std.specs.List.{filter, AllByRecursion}
use Rattle.std.specs.FinMap.{FinMap, IsAntisymmetric, find, is_sorted, entries, entries_sorted, get}
use Rattle.std.specs.FinMap.{get-entries}
use Rattle.std.specs.FinMap.Entries.{below_all}
use Rattle.std.proofs.lemmas.Cmp.{tied_itself}
use Rattle.std.proofs.lemmas.Bool.{cases_Bool, false_from_ne_true}
use Rattle.places.proofs.Texts.{and_both}

-- EACH of a list
pub each_append : {A : Type 0} (P : A → Type 0) (xs ys : List A) → AllByRecursion P xs → AllByRecursion P ys → AllByRecursion P (xs ++ ys)
each_append P [] ys h k = k
each_append P (x ∷ xs) ys h k = (h.0, each_append P xs ys h.1 k)

pub each_weaker : {A : Type 0} (P Q : A → Type 0) (xs : List A) → ((x : A) → P x → Q x) → AllByRecursion P xs → AllByRecursion Q xs
each_weaker P Q [] f h = tt
each_weaker P Q (x ∷ xs) f h = (f x h.0, each_weaker P Q xs f h.1)

pub less_of : (o : Ordering) → is_lt o ≡ true → o ≡ Less
less_of Less h = refl
less_of Equal h = absurd (cc h)
less_of Greater h = absurd (cc h)

equal_of : (o : Ordering) → is_eq o ≡ true → o ≡ Equal
equal_of Less h = absurd (cc h)
equal_of Equal h = refl
equal_of Greater h = absurd (cc h)

pub true_of : (b : Bool) → T b → b ≡ true
true_of true h = refl
true_of false h = absurd h

module _ {K : Type 0} {R : K → K → Ordering} (o : IsTotalOrder R) (same : IsAntisymmetric R) where
  not_less : (x : K) → R x x ≡ Less → ⊥
  not_less x h = absurd (cc (tied_itself o x, h))

  same_key : (q k : K) → eq_by_cmp R q k ≡ true → q ≡ k
  same_key q k h = same q k (equal_of (R q k) h)

module _ {K X : Type 0} {R : K → K → Ordering} (o : IsTotalOrder R) (same : IsAntisymmetric R) where
  -- a key among those above another is above it
  above_found : (x q : K) (es : List (K × X)) (v : X) → below_all R x es ≡ true → find R q es ≡ Some v → R x q ≡ Less
  above_found x q [] v h e = absurd (cc e)
  above_found x q (f ∷ es) v h e =
      let p = and_both (is_lt (R x f.0)) (below_all R x es) h in
      elim (cases_Bool (eq_by_cmp R q f.0)) [
        | inl is ↦ ap (R x) (same_key o same q f.0 is) ∙ less_of (R x f.0) p.0
        | inr differs ↦ above_found x q es v p.1 (sym (ap (λ b. cond b (Some f.1) (find R q es)) differs) ∙ e)
      ]

  -- each entry is what its key finds
  pub each_found : (P : K × X → Type 0) (es : List (K × X)) → is_sorted R es ≡ true → ((k : K) (v : X) → find R k es ≡ Some v → P (k, v)) → AllByRecursion P es
  each_found P [] sorted f = tt
  each_found P (e ∷ es) sorted f =
      let p = and_both (below_all R e.0 es) (is_sorted R es) sorted in (
        f e.0 e.1 (ap (λ r. cond (is_eq r) (Some e.1) (find R e.0 es)) (tied_itself o e.0)),
        each_found P es p.1 (λ k v found. f k v (
            let other : eq_by_cmp R k e.0 ≡ false = false_from_ne_true _ (λ is. not_less o same e.0 (ap (R e.0) (sym (same_key o same k e.0 is)) ∙ above_found e.0 k es v p.0 found)) in
            ap (λ b. cond b (Some e.1) (find R k es)) other ∙ found)),
      )

  pub each_entry : (P : K × X → Type 0) (m : FinMap R X) → ((k : K) (v : X) → get m k ≡ Some v → P (k, v)) → AllByRecursion P (entries m)
  each_entry P m f = each_found P (entries m) (true_of _ (entries_sorted m)) (λ k v found. f k v (get-entries m k ∙ found))

  -- TWO TESTS, of which the one picks what comes before all that the other picks
  none_before : (Q : K × X → Type 0) (p : K × X → Bool) (x : K) (es : List (K × X)) → below_all R x es ≡ true → AllByRecursion Q es → ((e : K × X) → Q e → p e ≡ true → R e.0 x ≡ Less) → filter p es ≡ []
  none_before Q p x [] below each before = refl
  none_before Q p x (e ∷ es) below each before =
      let b = and_both (is_lt (R x e.0)) (below_all R x es) below in
      let misses : p e ≡ false = false_from_ne_true (p e) (λ h. twice x e.0 (less_of (R x e.0) b.0) (before e each.0 h)) in
      ap (λ b. cond b (e ∷ filter p es) (filter p es)) misses ∙ none_before Q p x es b.1 each.1 before
    where
      twice : (x y : K) → R x y ≡ Less → R y x ≡ Less → ⊥
      twice x y h k = not_less o same x (o.trans x y x h k)

  pub split_filter : (Q : K × X → Type 0) (p r : K × X → Bool) (es : List (K × X)) → is_sorted R es ≡ true → AllByRecursion Q es
      → ((e f : K × X) → Q e → Q f → p e ≡ true → r f ≡ true → R e.0 f.0 ≡ Less) → filter (λ e. p e || r e) es ≡ filter p es ++ filter r es
  split_filter Q p r [] sorted each order = refl
  split_filter Q p r (e ∷ es) sorted each order =
      let s = and_both (below_all R e.0 es) (is_sorted R es) sorted in
      by (p e) refl (r e) refl s.0 (split_filter Q p r es s.1 each.1 order)
    where
      by : (a : Bool) → p e ≡ a → (b : Bool) → r e ≡ b → below_all R e.0 es ≡ true → filter (λ e. p e || r e) es ≡ filter p es ++ filter r es
          → filter (λ e. p e || r e) (e ∷ es) ≡ filter p (e ∷ es) ++ filter r (e ∷ es)
      by true a true b below rest = absurd (not_less o same e.0 (order e e each.0 each.0 a b))
      by true a false b below rest =
          (λ i. cond (a i || r e) (e ∷ filter (λ e. p e || r e) es) (filter (λ e. p e || r e) es))
          ∙ ap (λ (z : List (K × X)). e ∷ z) rest
          ∙ sym (λ i. cond (a i) (e ∷ filter p es) (filter p es) ++ cond (b i) (e ∷ filter r es) (filter r es))
      by false a true b below rest =
          (λ i. cond (a i || b i) (e ∷ filter (λ e. p e || r e) es) (filter (λ e. p e || r e) es))
          ∙ ap (λ (z : List (K × X)). e ∷ z) (rest ∙ ap (λ (z : List (K × X)). z ++ filter r es) (none_before Q p e.0 es below each.1 (λ f q h. order f e q each.0 h b)))
          ∙ sym ((λ i. cond (a i) (e ∷ filter p es) (filter p es) ++ cond (b i) (e ∷ filter r es) (filter r es))
          ∙ ap (λ (z : List (K × X)). z ++ e ∷ filter r es) (none_before Q p e.0 es below each.1 (λ f q h. order f e q each.0 h b)))
      by false a false b below rest =
          (λ i. cond (a i || b i) (e ∷ filter (λ e. p e || r e) es) (filter (λ e. p e || r e) es))
          ∙ rest
          ∙ sym (λ i. cond (a i) (e ∷ filter p es) (filter p es) ++ cond (b i) (e ∷ filter r es) (filter r es))

pub filter_same : {A : Type 0} (Q : A → Type 0) (p r : A → Bool) (xs : List A) → AllByRecursion Q xs → ((x : A) → Q x → p x ≡ r x) → filter p xs ≡ filter r xs
filter_same Q p r [] each is = refl
filter_same Q p r (x ∷ xs) each is = λ i. cond (is x each.0 i) (x ∷ filter_same Q p r xs each.1 is i) (filter_same Q p r xs each.1 is i)

pub filter_none : {A : Type 0} (Q : A → Type 0) (p : A → Bool) (xs : List A) → AllByRecursion Q xs → ((x : A) → Q x → p x ≡ false) → filter p xs ≡ []
filter_none Q p [] each none = refl
filter_none Q p (x ∷ xs) each none = ap (λ b. cond b (x ∷ filter p xs) (filter p xs)) (none x each.0) ∙ filter_none Q p xs each.1 none

pub filter_all : {A : Type 0} (Q : A → Type 0) (p : A → Bool) (xs : List A) → AllByRecursion Q xs → ((x : A) → Q x → p x ≡ true) → filter p xs ≡ xs
filter_all Q p [] each all = refl
filter_all Q p (x ∷ xs) each all = ap (λ b. cond b (x ∷ filter p xs) (filter p xs)) (all x each.0) ∙ ap (λ z. x ∷ z) (filter_all Q p xs each.1 all)
