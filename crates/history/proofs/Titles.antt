-- The first line of a message.
use Rattle.std.proofs.Common.{◌≡◌, ◌==◌, ℕ, suc, ◌+◌, ◌≤◌, Bool, true, false, not, cond, List, [], ◌∷◌, length, take, Some, None, inl, inr, refl, sym, ap, ◌∙◌, arith}
use Rattle.std.specs.List.{position, position_or_len}
use Rattle.std.proofs.lemmas.List.{take_all}
use Rattle.std.proofs.lemmas.Bool.{cases_lt}
use Rattle.history.specs.Logs.{title_of}

abbrev ends_line : ℕ → Bool
ends_line = λ b. b == 10

title_at : (text : List ℕ) → take (position_or_len ends_line text) text ≡ title_of text
title_at [] = refl
title_at (b ∷ rest) =
    let n : ℕ = position_or_len ends_line rest in
    let one : 1 + n ≡ suc n = omega arith in
    elim (b == 10) as (λ v. take (cond (not v) (1 + position_or_len ends_line rest) 0) (b ∷ rest) ≡ cond v [] (b ∷ title_of rest)) [
      | true ↦ refl
      | false ↦ ap (λ (k : ℕ). take k (b ∷ rest)) one ∙ ap (λ (z : List ℕ). b ∷ z) (title_at rest)
    ]

pub title_cut : (text : List ℕ) (end : ℕ) → position (λ b. b == 10) text ≡ Some end → take end text ≡ title_of text
title_cut text end found = ap (λ (n : ℕ). take n text) (sym is) ∙ title_at text
  where
    is : position_or_len ends_line text ≡ end
    is = elim (cases_lt (position_or_len ends_line text) (length text)) [
      | inl lt ↦ grind (arith, found, lt)
      | inr le ↦ absurd (grind (arith, found, le))
    ]

pub title_whole : (text : List ℕ) → position (λ b. b == 10) text ≡ None → text ≡ title_of text
title_whole text none = sym (take_all (position_or_len ends_line text) text far) ∙ title_at text
  where
    far : length text ≤ position_or_len ends_line text
    far = elim (cases_lt (position_or_len ends_line text) (length text)) [
      | inl lt ↦ absurd (grind (arith, none, lt))
      | inr le ↦ le
    ]
