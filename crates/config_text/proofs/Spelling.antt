-- What is spelled by a text and one more byte.
use Rattle.std.proofs.Common.{◌≡◌, ℕ, ◌+◌, ◌<◌, Bool, true, false, List, ◌∷◌, ◌++◌, length, drop, get_or, Option, Some, None, refl, sym, ap, ◌∙◌, append_assoc, add-one}
use Rattle.std.specs.Prelude.{MatchOption}
use Rattle.std.proofs.lemmas.Bool.{false≢true}
use Rattle.std.proofs.Math.Seq.{drop-cons}
use Rattle.config_text.specs.Values.{joined, spelled_by}

joined_front : {X : Type 0} (v more : List X) (rest : Option (List X)) → joined (Some (v ++ more)) rest ≡ joined (Some v) (joined (Some more) rest)
joined_front v more None = refl
joined_front v more (Some w) = ap Some (append_assoc v more w)

pub with_more : {X : Type 0} (o rest : Option (List X)) (v w : List X) (taken : Bool) → MatchOption o (taken ≡ false) (λ more. (taken ≡ true) × (w ≡ v ++ more)) → taken ≡ true
    → joined (Some w) rest ≡ joined (Some v) (joined o rest)
with_more None rest v w taken h took = absurd (false≢true (sym h ∙ took))
with_more {X} (Some more) rest v w taken h took = ap (λ (z : List X). joined (Some z) rest) h.1 ∙ joined_front v more rest

-- the byte at a place adds to the value, and the rest spells what it did
pub spelled_more : {S : Type 0} (add : S → ℕ → Option (List ℕ)) (next : S → ℕ → S) (ends : S → Bool) (s : S) (text : List ℕ) (i : ℕ) (v w : List ℕ) (taken : Bool)
    → i < length text → MatchOption (add s (get_or text i 0)) (taken ≡ false) (λ more. (taken ≡ true) × (w ≡ v ++ more)) → taken ≡ true
    → joined (Some w) (spelled_by add next ends (next s (get_or text i 0)) (drop (i + 1) text)) ≡ joined (Some v) (spelled_by add next ends s (drop i text))
spelled_more add next ends s text i v w taken lt h took =
    with_more (add s (get_or text i 0)) (spelled_by add next ends (next s (get_or text i 0)) (drop (i + 1) text)) v w taken h took
    ∙ ap (λ (z : List ℕ). joined (Some v) (spelled_by add next ends s z)) (sym whole)
  where
    whole : drop i text ≡ get_or text i 0 ∷ drop (i + 1) text
    whole = rw (add-one, drop-cons text i 0) refl
