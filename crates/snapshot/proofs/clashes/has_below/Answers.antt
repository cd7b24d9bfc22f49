use Rattle.std.proofs.Common.{◌≡◌, ◌∙◌, ◌++◌, ◌∷◌, List, ℕ, sym, ap, subst, rules, arith}
use Rattle.std.proofs.lemmas.Fn.{always_returns_same}
use Rattle.std.proofs.lemmas.Bool.{false≢true}
use Rattle.std.specs.Prelude.{MatchOption}
use Rattle.places.specs.All.{slash}
use Rattle.snapshot.specs.declared.entries.Entry.{Entry}
use Rattle.snapshot.proofs.Apart.{before_dir, partitioned, past_all, found_or_not}
use Rattle.snapshot.proofs.clashes.has_below.Goals as goal

pub returns-then-at-entries : goal.returns-then-at-entries
returns-then-at-entries c =
    let q = c.args.path.now in
    let entries = c.args.entries.now in
    let point = c.partition_point-at.ensures.partitioned (before_dir q) (always_returns_same _ _ _ (λ a r q k. search rules)) (partitioned entries q c.requires) in
    (λ t. absurd (false≢true t), λ has. absurd (past_all entries q c.partition_point-at.result c.requires point (omega (arith, c.if-at-entries.true)) has))

pub returns : goal.returns
returns c =
    let q = c.args.path.now in
    let entries = c.args.entries.now in
    let point = c.partition_point-at.ensures.partitioned (before_dir q) (always_returns_same _ _ _ (λ a r q k. search rules)) (partitioned entries q c.requires) in
    found_or_not entries q c.partition_point-at.result c.index-entries-at.result c.below_name.result c.is_some.result c.requires point (omega (arith, c.if-at-entries.false, c.partition_point-at.ensures.bound)) c.index-entries-at.is
    (subst (λ (z : List ℕ). MatchOption c.below_name.result ((rest : List ℕ) → z ≡ q ++ slash ∷ rest → ⊥) (λ rest. z ≡ q ++ slash ∷ rest.now)) (c.as_str.ensures.value ∙ ap (λ (z : Entry). z.path) (sym c.index-entries-at.is)) c.below_name.ensures) c.is_some.ensures
