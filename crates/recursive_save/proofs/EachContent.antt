-- What each of some contents has, each of those that count has, and each that isn't kept yet.
use Rattle.std.proofs.Common.{Bool, true, false, cond, not, List, [], ◌∷◌, ◌++◌}
use Rattle.std.specs.Prelude.{fold}
use Rattle.places.specs.All.{Names, Ground}
use Rattle.annex_store.specs.All.{Each, firsts, has_key, is_kept, unkept, with_first}
use Rattle.annex_store.specs.declared.members.NewContent.{NewContent}
use Rattle.recursive_save.proofs.Sources.{each_append}

module _ (P : NewContent → Type 0) where
  with_each : (some : List NewContent) (x : NewContent) → Each P some → P x → Each P (with_first some x)
  with_each some x each one = by (has_key some x.key)
    where
      by : (b : Bool) → Each P (cond b some (some ++ x ∷ []))
      by true = each
      by false = each_append P some (x ∷ []) each (one, tt)

  firsts_from : (some list : List NewContent) → Each P some → Each P list → Each P (fold with_first some list)
  firsts_from some [] each rest = each
  firsts_from some (x ∷ list) each rest = firsts_from (with_first some x) list (with_each some x each rest.0) rest.1

  pub firsts_each : (list : List NewContent) → Each P list → Each P (firsts list)
  firsts_each list each = firsts_from [] list tt each

  pub unkept_each : (repo : Names) (g : Ground) (list : List NewContent) → Each P list → Each P (unkept repo list g)
  unkept_each repo g [] each = tt
  unkept_each repo g (x ∷ list) each = by (not (is_kept repo x.key g)) (unkept_each repo g list each.1)
    where
      by : (b : Bool) → Each P (unkept repo list g) → Each P (cond b (x ∷ unkept repo list g) (unkept repo list g))
      by true rest = (each.0, rest)
      by false rest = rest
