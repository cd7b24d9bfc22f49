-- What is returned, by what reading gives.
use Rattle.std.proofs.Common.{◌≡◌, ◌⊎◌, inl, inr, ℕ, ◌<◌, List, Result, Ok, Err, refl, sym, ap, ◌∙◌, subst}
use Rattle.std.specs.Prelude.{IfOk, IfErr}
use Rattle.std.proofs.lemmas.Bool.{cases_order}
use Rattle.dl_words.specs.declared.errors.WordsErr.{WordsErr}
use Rattle.dl_words.specs.declared.errors.WordsErr.TheVariants.{Usage, NoMemory}
use Rattle.dl_words.specs.declared.words.Words.{Words}
use Rattle.dl_words.specs.Grammar.{AskFor, EndsAt, Refuses}
use Rattle.dl_words.specs.Steps.{Gives, reading}
use Rattle.dl_words.proofs.Complete.{complete}
use Rattle.dl_words.proofs.Lists.{as_ok, ok_inside}
use Rattle.dl_words.proofs.Sound.{sound}
use Rattle.dl_words.proofs.Stops.{ends}

-- words that are a call are read
pub asked_is_read : (words : List (List ℕ)) (asked : Words) → AskFor words asked → reading words ≡ Ok asked
asked_is_read words asked a = ap reading a.2 ∙ (complete a.0 a.1 ∙ ap (λ (w : Words). as_ok w) (sym a.3))

-- words ask for at most one thing
pub one_meaning : (words : List (List ℕ)) (a b : Words) → AskFor words a → AskFor words b → a ≡ b
one_meaning words a b h k = ok_inside a b (sym (asked_is_read words a h) ∙ asked_is_read words b k)

ends_no_later : (words : List (List ℕ)) (m n : ℕ) → EndsAt words m → EndsAt words n → m < n → ⊥
ends_no_later words m n first last less = first.longest n less last.within last.before

-- reading ends at most at one index
pub ends_once : (words : List (List ℕ)) (m n : ℕ) → EndsAt words m → EndsAt words n → m ≡ n
ends_once words m n a b = by_order (cases_order m n)
  where
    by_order : (m ≡ n) ⊎ ((m < n) ⊎ (n < m)) → m ≡ n
    by_order (inl same) = same
    by_order (inr (inl less)) = absurd (ends_no_later words m n a b less)
    by_order (inr (inr less)) = absurd (ends_no_later words n m b a less)

-- words ask for something, or reading ends
pub have_meaning : (words : List (List ℕ)) → ((asked : Words) × AskFor words asked) ⊎ ((at : ℕ) × EndsAt words at)
have_meaning words = by_reading (reading words) refl
  where
    by_reading : (r : Result Words ℕ) → reading words ≡ r → ((asked : Words) × AskFor words asked) ⊎ ((at : ℕ) × EndsAt words at)
    by_reading (Ok asked) h = inl (asked, sound words asked h)
    by_reading (Err at) h = inr (at, ends words at h)

pub found_of : (words : List (List ℕ)) (r : Result Words WordsErr) → Gives (λ w. w) (reading words) r → IfOk r (AskFor words)
found_of words (Ok asked) h = sound words asked h
found_of words (Err e) h = tt

pub all_of : (words : List (List ℕ)) (r : Result Words WordsErr) → Gives (λ w. w) (reading words) r → (asked : Words) → AskFor words asked → Gives (λ w. w) (Ok asked) r
all_of words r h asked a = subst (λ (x : Result Words ℕ). Gives (λ w. w) x r) (asked_is_read words asked a) h

pub refused_of : (words : List (List ℕ)) (r : Result Words WordsErr) → Gives (λ w. w) (reading words) r → IfErr r (Refuses words)
refused_of words (Ok asked) h = tt
refused_of words (Err (Usage at)) h = ends words at h
refused_of words (Err NoMemory) h = tt
