-- What stands behind a front of a word.
use Rattle.std.proofs.Common.{◌≡◌, ℕ, suc, ◌+◌, ◌<◌, Bool, true, false, List, [], ◌∷◌, ◌++◌, length, get_or, drop, Option, Some, None, refl, sym, ap, ◌∙◌, arith, rules, Bor, inl, inr, add-one}
use Rattle.std.specs.Prelude.{MatchOption, option_copied, nat_eq}
use Rattle.std.specs.Str.Pattern.{FindsTextPrefix, StripsPrefix}
use Rattle.std.proofs.lemmas.Bool.{cases_Bool, cond-true, cond-false, eqb-true, eq-eqb}
use Rattle.std.proofs.Math.Seq.{drop-cons}
use Rattle.dl_words.specs.Spelling.{after}

-- behind a front stands the rest
pub after-append : (front word : List ℕ) → after front (front ++ word) ≡ Some word
after-append [] word = refl
after-append (c ∷ front) word = cond-true (nat_eq c c) (after front (front ++ word)) None (eq-eqb c c refl) ∙ after-append front word

-- what is found behind a front stands there
pub after_is : (front word rest : List ℕ) → after front word ≡ Some rest → word ≡ front ++ rest
after_is [] word rest h = cc
after_is (c ∷ front) [] rest h = cc
after_is (c ∷ front) (b ∷ word) rest h = elim (cases_Bool (nat_eq b c)) [
  | inl same ↦
      let more : word ≡ front ++ rest = after_is front word rest (sym (cond-true (nat_eq b c) (after front word) None same) ∙ h) in
      let one : b ≡ c = eqb-true b c same in
      cc
  | inr differs ↦
      let none : None ≡ Some rest = sym (cond-false (nat_eq b c) (after front word) None differs) ∙ h in
      cc
]

none_after : (front word : List ℕ) (found : Option (List ℕ)) → after front word ≡ found → ((rest : List ℕ) → word ≡ front ++ rest → ⊥) → after front word ≡ None
none_after front word None e h = e
none_after front word (Some rest) e h = absurd (h rest (after_is front word rest e))

-- what `strip_prefix` gives
pub after_stripped : (front word : List ℕ) (r : Option (Bor (List ℕ))) → MatchOption r (FindsTextPrefix front word None) (λ x. StripsPrefix (FindsTextPrefix front) word x.now)
    → option_copied r ≡ after front word
after_stripped front word None h = sym (none_after front word (after front word) refl h)
after_stripped front word (Some x) h =
    let found = h.1 in
    let whole : word ≡ front ++ x.now = found.1 ∙ ap (λ l. front ++ l) (sym h.2) in
    sym (ap (after front) whole ∙ after-append front x.now)

-- a list from a place on is what stands there and the rest
pub drop_at : {X : Type 0} (xs : List X) (i : ℕ) (d : X) → i < length xs → drop i xs ≡ get_or xs i d ∷ drop (i + 1) xs
drop_at xs i d h = rw (add-one, drop-cons xs i d) refl
