use Rattle.std.proofs.Common.{◌≡◌, ◌∙◌, ◌++◌, List, ℕ, ap, subst}
use Rattle.std.specs.Prelude.{MatchOption}
use Rattle.index_file.specs.Entries.{four}
use Rattle.index_file.proofs.fields.after_mode.Goals as goal

pub returns : goal.returns
returns c =
    subst (λ (z : List ℕ). MatchOption c.without_front.result ((rest : List ℕ) → c.args.text.now ≡ z ++ rest → ⊥) (λ rest. c.args.text.now ≡ z ++ rest.now)) (c.to_be_bytes.ensures ∙ ap four c.number_of.ensures) c.without_front.ensures
