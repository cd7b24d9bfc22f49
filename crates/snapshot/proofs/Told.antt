-- Paths of directories, as they are told.
use Rattle.std.proofs.Common.{◌≡◌, ℕ, ◌==◌, Bool, true, false, List, [], ◌∷◌, ◌++◌, refl, sym, ap, ◌∙◌, cond, arith}
use Rattle.places.specs.All.{slash}
use Rattle.snapshot.specs.Flattens.{without_slash, told_path}

pub slash_gone : (front : List ℕ) → without_slash (front ++ slash ∷ []) ≡ front
slash_gone [] = refl
slash_gone (a ∷ []) = refl
slash_gone (a ∷ b ∷ front) = ap (λ (z : List ℕ). a ∷ z) (slash_gone (b ∷ front))

is_slash : (b : ℕ) → (b == slash) ≡ true → b ≡ slash
is_slash b e = grind arith

pub slash_absent : (path : List ℕ) → ((front : List ℕ) → path ≡ front ++ slash ∷ [] → ⊥) → without_slash path ≡ path
slash_absent [] none = refl
slash_absent (b ∷ []) none = by (b == slash) refl
  where
    by : (t : Bool) → (b == slash) ≡ t → cond t [] (b ∷ []) ≡ b ∷ []
    by true e = absurd (none [] (ap (λ (z : ℕ). z ∷ []) (is_slash b e)))
    by false e = refl
slash_absent (b ∷ c ∷ rest) none = ap (λ (z : List ℕ). b ∷ z) (slash_absent (c ∷ rest) (λ front e. none (b ∷ front) (ap (λ (z : List ℕ). b ∷ z) e)))

pub told_is : (path front : List ℕ) → path ≡ front ++ slash ∷ [] → front ≡ told_path path
told_is path front e = sym (slash_gone front) ∙ by front ∙ ap told_path (sym e)
  where
    by : (front : List ℕ) → without_slash (front ++ slash ∷ []) ≡ told_path (front ++ slash ∷ [])
    by [] = refl
    by (a ∷ front) = refl
