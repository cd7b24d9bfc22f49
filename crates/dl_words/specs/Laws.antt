-- What the grammar says of all words.
use Rattle.std.specs.Prelude.{◌≡◌, ℕ, ◌⊎◌, List}
use Rattle.dl_words.specs.declared.words.Words.{Words}
use Rattle.dl_words.specs.Grammar.{AskFor, EndsAt}

-- Words ask for at most one thing.
abbrev pub AskOnce : Type 0
AskOnce = (words : List (List ℕ)) (a b : Words) → AskFor words a → AskFor words b → a ≡ b

-- Reading ends at most at one index.
abbrev pub EndsOnce : Type 0
EndsOnce = (words : List (List ℕ)) (m n : ℕ) → EndsAt words m → EndsAt words n → m ≡ n

-- All words have a meaning: they ask for something, or reading ends at an index.
abbrev pub HaveMeaning : Type 0
HaveMeaning =
    (words : List (List ℕ))
    → ((asked : Words) × AskFor words asked) ⊎ ((at : ℕ) × EndsAt words at)
