-- Things in a text, one after the other, of kinds of which a text has at most one at its front.
use Rattle.std.proofs.Common.{◌≡◌, ◌⊎◌, inl, inr, ℕ, List, [], ◌∷◌, ◌++◌, refl, sym, subst, ◌∙◌}
use Rattle.index_file.specs.Things.{AreThings, StopsIn, piled, here, later}

-- a text has at most one thing of this kind at its front
abbrev pub IsOnce : {V : Type 0} → (V → List ℕ → List ℕ → Type 0) → Type 0
IsOnce {V} thing = (v w : V) (text a b : List ℕ) → thing v text a → thing w text b → (v ≡ w) × (a ≡ b)

-- the same at two texts that are one
pub once_at : {V : Type 0} (thing : V → List ℕ → List ℕ → Type 0) → IsOnce thing → (v w : V) (s t a b : List ℕ) → s ≡ t → thing v s a → thing w t b → (v ≡ w) × (a ≡ b)
once_at thing once v w s t a b e h k = once v w t a b (subst (λ (z : List ℕ). thing v z a) e h) k

-- ---- stops

pub one_stop : {V : Type 0} (thing : V → List ℕ → List ℕ → Type 0) (behind : V → List ℕ → ℕ → Type 0) → IsOnce thing → ((v : V) (t : List ℕ) (m n : ℕ) → behind v t m → behind v t n → m ≡ n)
    → (text : List ℕ) (m n : ℕ) → StopsIn thing behind text m → StopsIn thing behind text n → m ≡ n
one_stop thing behind once rest text m n (here h p) (here k q) = p ∙ sym q
one_stop thing behind once rest text m n (here h p) (later w b k q) = absurd (h w b k)
one_stop thing behind once rest text m n (later v a h p) (here k q) = absurd (k v a h)
one_stop {V} thing behind once rest text m n (later v a h p) (later w b k q) =
    let same = once v w text a b h k in
    rest v a m n p (subst (λ (z : V). behind z a n) (sym same.0) (subst (λ (z : List ℕ). behind w z n) (sym same.1) q))

pub no_stop : {V : Type 0} (thing : V → List ℕ → List ℕ → Type 0) (behind : V → List ℕ → ℕ → Type 0) → IsOnce thing → (v : V) (text after : List ℕ) (left : ℕ) → thing v text after → (behind v after left → ⊥)
    → StopsIn thing behind text left → ⊥
no_stop thing behind once v text after left h none (here k q) = k v after h
no_stop {V} thing behind once v text after left h none (later w b k q) =
    let same = once v w text after b h k in
    none (subst (λ (z : V). behind z after left) (sym same.0) (subst (λ (z : List ℕ). behind w z left) (sym same.1) q))

-- ---- one more

pub push : {V : Type 0} (thing : List V → V → List ℕ → List ℕ → Type 0) (before vs : List V) (v : V) (text mid after : List ℕ) → AreThings thing before vs text mid → thing (piled before vs) v mid after
    → AreThings thing before (vs ++ v ∷ []) text after
push thing before [] v text mid after h t = (after, subst (λ (z : List ℕ). thing before v z after) (sym h) t, refl)
push thing before (u ∷ us) v text mid after h t = (h.0, h.1, push thing (u ∷ before) us v h.0 mid after h.2 t)

pub piled_push : {V : Type 0} (before vs : List V) (v : V) → piled before (vs ++ v ∷ []) ≡ v ∷ piled before vs
piled_push before [] v = refl
piled_push before (u ∷ us) v = piled_push (u ∷ before) us v

-- ---- two runs from one place

-- the second run goes on where the first one ends
pub record GoesOn {V : Type 0} (thing : List V → V → List ℕ → List ℕ → Type 0) (before vs : List V) (x : List ℕ) (ws : List V) : Type 0 where
  pub next : V
  pub more : List V
  pub rest : List ℕ
  pub split : ws ≡ vs ++ next ∷ more
  pub stands : thing (piled before vs) next x rest

abbrev pub AreOne : {V : Type 0} → List V → List ℕ → List V → List ℕ → Type 0
AreOne vs x ws y = (vs ≡ ws) × (x ≡ y)

pub apart : {V : Type 0} (thing : List V → V → List ℕ → List ℕ → Type 0) → ((before : List V) → IsOnce (thing before)) → (before vs ws : List V) (text x y : List ℕ) → AreThings thing before vs text x → AreThings thing before ws text y
    → AreOne vs x ws y ⊎ (GoesOn thing before vs x ws ⊎ GoesOn thing before ws y vs)
apart thing once before [] [] text x y h k = inl (refl, sym h ∙ k)
apart thing once before [] (w ∷ ws) text x y h k = inr (inl (record { next = w; more = ws; rest = k.0; split = refl; stands = subst (λ (z : List ℕ). thing before w z k.0) h k.1 }))
apart thing once before (v ∷ vs) [] text x y h k = inr (inr (record { next = v; more = vs; rest = h.0; split = refl; stands = subst (λ (z : List ℕ). thing before v z h.0) k h.1 }))
apart {V} thing once before (v ∷ vs) (w ∷ ws) text x y h k =
    let same = once before v w text h.0 k.0 h.1 k.1 in
    let other = subst (λ (z : V). AreThings thing (z ∷ before) ws h.0 y) (sym same.0) (subst (λ (z : List ℕ). AreThings thing (w ∷ before) ws z y) (sym same.1) k.2) in
    elim (apart thing once (v ∷ before) vs ws h.0 x y h.2 other) [
      | inl one ↦ inl ((λ i. same.0 i ∷ one.0 i), one.1)
      | inr (inl g) ↦ inr (inl (record { next = g.next; more = g.more; rest = g.rest; split = λ i. sym same.0 i ∷ g.split i; stands = g.stands }))
      | inr (inr g) ↦ inr (inr (record { next = g.next; more = g.more; rest = g.rest; split = λ i. same.0 i ∷ g.split i; stands = subst (λ (z : V). thing (piled (z ∷ before) ws) g.next y g.rest) same.0 g.stands }))
    ]
