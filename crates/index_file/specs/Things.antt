-- Things that stand in a text one after the other. A kind of thing is given by which value, before
-- which text, has which text behind it.
use Rattle.std.specs.Prelude.{◌≡◌, ℕ, List, [], ◌∷◌, length}

-- None of a kind stands at the front.
abbrev pub Lacking : {V : Type 0} → (V → List ℕ → List ℕ → Type 0) → List ℕ → Type 0
Lacking {V} thing text = (value : V) (after : List ℕ) → thing value text after → ⊥

-- Where a text stops, by how many bytes are left there: where a thing should stand and none does;
-- or one does, and what is behind it stops.
pub data StopsIn {V : Type 0} (thing : V → List ℕ → List ℕ → Type 0)
    (behind : V → List ℕ → ℕ → Type 0) (text : List ℕ) (left : ℕ) : Type 0 where
  here : Lacking thing text → left ≡ length text → StopsIn thing behind text left
  later : (value : V) (after : List ℕ) → thing value text after → behind value after left
      → StopsIn thing behind text left

-- These things stand at the front. Which ones may stand there may lie in those before, of which the
-- list has the last one first.
abbrev pub AreThings : {V : Type 0} → (List V → V → List ℕ → List ℕ → Type 0)
    → List V → List V → List ℕ → List ℕ → Type 0
AreThings thing before [] text after = text ≡ after
AreThings {V} thing before (value ∷ values) text after =
    (rest : List ℕ)
    × thing before value text rest
    × AreThings thing (value ∷ before) values rest after

-- A list, the last one first, with more behind it.
abbrev pub piled : {V : Type 0} → List V → List V → List V
piled before [] = before
piled before (value ∷ values) = piled (value ∷ before) values
