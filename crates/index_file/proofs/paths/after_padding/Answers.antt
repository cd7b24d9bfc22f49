use Rattle.std.proofs.Common.{◌≡◌, ◌++◌, List, ℕ, subst}
use Rattle.std.specs.Prelude.{MatchOption}
use Rattle.index_file.proofs.paths.after_padding.Goals as goal

pub returns : goal.returns
returns c =
    subst (λ (z : List ℕ). MatchOption c.without_front.result ((rest : List ℕ) → c.args.text.now ≡ z ++ rest → ⊥) (λ rest. c.args.text.now ≡ z ++ rest.now)) c.padding.ensures c.without_front.ensures
